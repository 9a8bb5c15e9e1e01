-- Laws of text that is put into a buffer. Assumes nothing.
use Prim.Native.Nat.{ℕ, ◌+◌, ◌-◌, ◌<◌, ◌≤◌}
use mathlib.Core.Path.{◌≡◌, refl, sym, ap, ◌∙◌}
use mathlib.Core.List.{List, [], ◌∷◌, ◌++◌, map, append-nil, append_assoc}
use mathlib.Core.Bool.{false}
use native.Mathlib.Omega.{arith}
use native.Mathlib.Numerals.{add-one}
use lib.ListN.{length, get_or, drop, take, length-append}
use lib.Seq.{take-suc, drop-drop, take_all}
use lib.Dec.{eqb}
use borrow.Author.Tests.{eq-eqb, ne_eqb}
use Rattle.std.specs.Prelude.{Option, None, Some, MatchOption, option_to_list}
use Rattle.std.specs.Fmt.{decimal}
use Rattle.model.specs.Queue.{STATUS}
use Rattle.lines.specs.declared.show.Output.{Output}
use Rattle.lines.specs.Shown.{after, decs, field_text, answered, shown, Put, Adds}

-- what is the same from q on is the same from any later place on
further : (q m : ℕ) (a b : List ℕ) → drop q b ≡ drop q a → drop (q + m) b ≡ drop (q + m) a
further q m a b e = sym (drop-drop m q b) ∙ ap (drop m) e ∙ drop-drop m q a

-- two texts, one after the other
pub put_both : {a b c : List ℕ} {p q r : ℕ} {s t : List ℕ} → Put a b p q s → Put b c q r t → Put a c p r (s ++ t)
put_both {a = a} {b = b} {p = p} {q = q} {s = s} {t = t} x y =
    record {
      holds = y.holds ∙ ap (λ (l : List ℕ). l ++ t) x.holds ∙ append_assoc (take p a) s t;
      ends = omega (arith, x.ends, y.ends, length-append s t);
      beyond = y.beyond ∙ rw y.ends (further q (length t) a b x.beyond);
    }

-- the same of an output
pub adds_both : {a b c : Output} {s t : List ℕ} → Adds a b s → Adds b c t → Adds a c (s ++ t)
adds_both x y = record { put = put_both x.put y.put; len = y.len ∙ x.len; same_buffer = y.same_buffer ∙ x.same_buffer }

-- ---- lists
after_snoc : (ts : List (List ℕ)) (t : List ℕ) → after (ts ++ t ∷ []) ≡ after ts ++ (44 ∷ t)
after_snoc [] t = ap (λ (l : List ℕ). 44 ∷ l) (append-nil t)
after_snoc (s ∷ ts) t = ap (λ (l : List ℕ). 44 ∷ l) (ap (λ (l : List ℕ). s ++ l) (after_snoc ts t) ∙ sym (append_assoc s (after ts) (44 ∷ t)))

map_snoc : (f : ℕ → List ℕ) (xs : List ℕ) (x : ℕ) → map f (xs ++ x ∷ []) ≡ map f xs ++ f x ∷ []
map_snoc f [] x = refl
map_snoc f (y ∷ xs) x = ap (λ (l : List (List ℕ)). f y ∷ l) (map_snoc f xs x)

-- the texts of the first i numbers, a comma before each
abbrev pub behind : ℕ → List ℕ → List ℕ
behind i xs = after (map decimal (take i xs))

pub behind_more : (xs : List ℕ) (i : ℕ) → i < length xs → behind (i + 1) xs ≡ behind i xs ++ (44 ∷ decimal (get_or xs i 0))
behind_more xs i h =
    ap (λ (k : ℕ). behind k xs) (add-one i)
    ∙ ap (λ (l : List ℕ). after (map decimal l)) (take-suc xs i 0 h)
    ∙ ap after (map_snoc decimal (take i xs) (get_or xs i 0))
    ∙ after_snoc (map decimal (take i xs)) (decimal (get_or xs i 0))

pub behind_all : (xs : List ℕ) (i : ℕ) → length xs ≤ i → behind i xs ≡ after (map decimal xs)
behind_all xs i h = ap (λ (l : List ℕ). after (map decimal l)) (take_all i xs h)

-- ---- the retired token as a list of one or none
pub listed : (o : Option ℕ) (l : List ℕ) → MatchOption o (l ≡ []) (λ x. l ≡ x ∷ []) → l ≡ option_to_list o
listed None l e = e
listed (Some x) l e = e

-- ---- the field of an unbounded queue's status: the first count, `,-,` and the others
pub field_dashed : (code : ℕ) (field : List ℕ) → code ≡ STATUS → length field ≡ 5
    → field_text code field ≡ decimal (get_or field 0 0) ++ (44 ∷ 45 ∷ 44 ∷ []) ++ decs (take (length field - 1) (drop 1 field))
field_dashed code [] is five = absurd (omega arith)
field_dashed code (x ∷ []) is five = absurd (omega arith)
field_dashed code (x ∷ y ∷ xs) is five =
    rw (eq-eqb code STATUS is, eq-eqb (length (x ∷ y ∷ xs)) 5 five, take_all (length (x ∷ y ∷ xs) - 1) (y ∷ xs) (omega arith)) (sym (append_assoc (decimal x) (44 ∷ 45 ∷ 44 ∷ []) (decs (y ∷ xs))))

-- any other field: its numbers
pub field_counted : (code : ℕ) (field : List ℕ) → code ≡ STATUS → eqb (length field) 5 ≡ false → field_text code field ≡ decs field
field_counted code field is other = rw (eq-eqb code STATUS is, other)

pub field_plain : (code : ℕ) (field : List ℕ) → (code ≡ STATUS → ⊥) → field_text code field ≡ decs field
field_plain code field other = rw (ne_eqb code STATUS other)

-- ---- an output line, of its parts
pub shown_line : (n : ℕ) (code : ℕ) (field wakes retired : List ℕ)
    → decimal n ++ (32 ∷ []) ++ decimal code ++ (32 ∷ []) ++ field_text code field ++ (32 ∷ []) ++ decs wakes ++ (32 ∷ []) ++ decs retired ++ (10 ∷ [])
    ≡ shown n (answered code field wakes retired)
unfolding shown
shown_line n code field wakes retired = simp append_assoc
