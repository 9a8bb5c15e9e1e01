-- The bytewise definition writes what the linewise one does (`agree`), however the input is cut into chunks (`agree_chunks`). With the contracts
-- of `feed`, `drain` and `last` that is as much as can be said of the whole program: nothing states what `main` reads and writes. Assumes nothing.
use Prim.Native.Nat.{ℕ, ◌+◌, ◌<◌}
use mathlib.Core.Path.{◌≡◌, refl, sym, ap, ◌∙◌}
use mathlib.Core.List.{List, [], ◌∷◌, ◌++◌, append-nil, append_assoc}
use Rattle.std.specs.Prelude.{None}
use Rattle.std.specs.List.{concat}
use native.Mathlib.Omega.{arith}
use native.Mathlib.Decide.{dec_lt, ℕ_discrete}
use lib.ListN.{length, take, length-append}
use lib.Seq.{take_all, take-append-le, length-take-le}
use borrow.Author.Tests.{lt-ltb, eq-eqb, ne_eqb}
use Rattle.lines.specs.Rows.{parsed}
use Rattle.lines.proofs.Reading.{parsed_long}
use Rattle.lines.specs.Text.{LF}
use Rattle.calls.specs.Model.{Held, next_of}
use Rattle.calls.specs.Whole.{grow, lines_of, answer, answers, output}
use Rattle.calls.specs.Stream.{St, start, keep, next, emit, fed, text, finish, streamed}

-- ---- chunks
pub fed_chunks : (s : St) (a b : List ℕ) → fed s (a ++ b) ≡ fed (fed s a) b
unfolding fed
fed_chunks s [] b = refl
fed_chunks s (c ∷ a) b = fed_chunks (next s c) a b

pub text_chunks : (s : St) (a b : List ℕ) → text s (a ++ b) ≡ text s a ++ text (fed s a) b
unfolding fed text
text_chunks s [] b = refl
text_chunks s (c ∷ a) b = ap (λ (t : List ℕ). emit s c ++ t) (text_chunks (next s c) a b) ∙ sym (append_assoc (emit s c) (text (next s c) a) (text (fed (next s c) a) b))

-- ---- lines
-- a text with no LF
abbrev Free : List ℕ → Type 0
Free [] = Unit {0}
Free (b ∷ u) = (b ≡ LF → ⊥) × Free u

free_snoc : (u : List ℕ) (b : ℕ) → Free u → (b ≡ LF → ⊥) → Free (u ++ b ∷ [])
free_snoc [] b f n = (n, tt)
free_snoc (c ∷ u) b f n = (f.0, free_snoc u b f.1 n)

lines_lf : (u : List ℕ) (b : ℕ) (s : List ℕ) → Free u → b ≡ LF → lines_of (u ++ b ∷ s) ≡ u ∷ lines_of s
unfolding lines_of
lines_lf [] b s f e = rw (eq-eqb b LF e)
lines_lf (c ∷ u) b s f e = rw (ne_eqb c LF f.0, lines_lf u b s f.1 e)

lines_last : (c : ℕ) (u : List ℕ) → Free (c ∷ u) → lines_of (c ∷ u) ≡ (c ∷ u) ∷ []
unfolding lines_of
lines_last c [] f = rw (ne_eqb c LF f.0)
lines_last c (d ∷ u) f = rw (ne_eqb c LF f.0) (ap (grow c) (lines_last d u f.1))

-- ---- the first 65 bytes of a line say what the line says
parsed_take : (u : List ℕ) → parsed (take 65 u) ≡ parsed u
parsed_take u = by (dec_lt 65 (length u))
  where
    by : Dec (65 < length u) → parsed (take 65 u) ≡ parsed u
    by (yes l) = parsed_long (take 65 u) (omega (arith, length-take-le 65 u (omega arith))) ∙ sym (parsed_long u (omega arith))
    by (no n) = ap parsed (take_all 65 u (omega arith))

keep_take : (u : List ℕ) (b : ℕ) → keep (take 65 u) b ≡ take 65 (u ++ b ∷ [])
keep_take u b = by (dec_lt (length u) 65)
  where
    by : Dec (length u < 65) → keep (take 65 u) b ≡ take 65 (u ++ b ∷ [])
    by (yes l) = rw (take_all 65 u (omega arith), lt-ltb (length u) 65 l) (sym (take_all 65 (u ++ b ∷ []) (omega (arith, length-append u (b ∷ [])))))
    by (no n) = rw (length-take-le 65 u (omega arith)) (sym (take-append-le 65 u (b ∷ []) (omega arith)))

same_answer : (m : Held) (n : ℕ) (u : List ℕ) → answer m n (take 65 u) ≡ answer m n u
same_answer m n u = rw (parsed_take u)

no_lines : (m : Held) (n : ℕ) → [] ≡ answers m n (lines_of [])
unfolding answers lines_of
no_lines m n = refl

-- a state in a line whose bytes so far are u
abbrev mid : Held → ℕ → List ℕ → St
mid m n u = record { count = n; part = take 65 u; queue = m }

finish_mid : (m : Held) (n : ℕ) (u : List ℕ) → Free u → finish (mid m n u) ≡ answers m n (lines_of u)
unfolding finish answers
finish_mid m n [] f = no_lines m n
finish_mid m n (c ∷ u) f = same_answer m (n + 1) (c ∷ u) ∙ sym (append-nil (answer m (n + 1) (c ∷ u))) ∙ ap (answers m n) (sym (lines_last c u f))

step : (b : ℕ) (s : List ℕ) (m : Held) (n : ℕ) (u : List ℕ) → Free u
    → ((m : Held) (n : ℕ) (v : List ℕ) → Free v → text (mid m n v) s ++ finish (fed (mid m n v) s) ≡ answers m n (lines_of (v ++ s)))
    → Dec (b ≡ LF) → text (mid m n u) (b ∷ s) ++ finish (fed (mid m n u) (b ∷ s)) ≡ answers m n (lines_of (u ++ b ∷ s))
unfolding text fed answers
step b s m n u f ih (yes e) =
    let k = next_of m (parsed u) in
    rw (eq-eqb b LF e, parsed_take u)
    (append_assoc (answer m (n + 1) u) (text (mid k (n + 1) []) s) (finish (fed (mid k (n + 1) []) s))
    ∙ ap (λ (t : List ℕ). answer m (n + 1) u ++ t) (ih k (n + 1) [] tt)
    ∙ ap (answers m n) (sym (lines_lf u b s f e)))
step b s m n u f ih (no d) =
    rw (ne_eqb b LF d, keep_take u b) (ih m n (u ++ b ∷ []) (free_snoc u b f d) ∙ ap (λ (t : List ℕ). answers m n (lines_of t)) (append_assoc u (b ∷ []) s))

go : (s : List ℕ) (m : Held) (n : ℕ) (u : List ℕ) → Free u → text (mid m n u) s ++ finish (fed (mid m n u) s) ≡ answers m n (lines_of (u ++ s))
unfolding text fed
go [] m n u f = finish_mid m n u f ∙ ap (λ (t : List ℕ). answers m n (lines_of t)) (sym (append-nil u))
go (b ∷ s) m n u f = step b s m n u f (go s) (ℕ_discrete b LF)

-- the whole output, of the whole input
pub agree : (s : List ℕ) → text start s ++ finish (fed start s) ≡ output s
agree s = go s None 0 [] tt

-- THE PROGRAM'S OUTPUT IS THE DEFINITION'S, however the input is cut into chunks
streamed_on : (s : St) (cs : List (List ℕ)) → streamed s cs ≡ text s (concat cs) ++ finish (fed s (concat cs))
unfolding streamed text fed
streamed_on s [] = refl
streamed_on s (c ∷ cs) =
    ap (λ (t : List ℕ). text s c ++ t) (streamed_on (fed s c) cs)
    ∙ sym (append_assoc (text s c) (text (fed s c) (concat cs)) (finish (fed (fed s c) (concat cs))))
    ∙ ap (λ (t : List ℕ). t ++ finish (fed (fed s c) (concat cs))) (sym (text_chunks s c (concat cs)))
    ∙ ap (λ (r : St). text s (c ++ concat cs) ++ finish r) (sym (fed_chunks s c (concat cs)))

pub agree_chunks : (cs : List (List ℕ)) → streamed start cs ≡ output (concat cs)
agree_chunks cs = streamed_on start cs ∙ agree (concat cs)
