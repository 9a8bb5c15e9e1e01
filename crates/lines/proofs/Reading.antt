-- What a line's words say, as `said` and `parse` read them. Assumes nothing.
use Prim.Native.Nat.{ℕ, zero, suc, ◌<◌, ◌≤◌}
use mathlib.Core.Path.{◌≡◌, refl, sym, ap, ◌∙◌, subst}
use mathlib.Core.List.{List, [], ◌∷◌}
use mathlib.Core.Bool.{Bool, true, false, cond, ◌&&◌}
use native.Mathlib.Omega.{arith}
use lib.ListN.{length, get_or}
use lib.Dec.{eqb, leb, ltb, lit<}
use denote.Ref.{Bor}
use borrow.Author.Tests.{eqb-true, ltb-true, leb-true, ne_eqb, lt-ltb, le-ltb}
use Rattle.std.specs.Prelude.{Option, None, Some, MatchOption}
use Rattle.std.specs.List.{onto_first}
use Rattle.std.specs.Str.{bytes_eq, IsUtf8, IsAscii, all_ascii_digits}
use Rattle.std.specs.Char.{is_ascii_digit}
use Rattle.std.proofs.lemmas.Bool.{and_parts, and_from}
use Rattle.std.proofs.lemmas.Slice.Eq.{bytes_eq-Decides}
use Rattle.std.proofs.lemmas.Str.{IsUtf8-from_ascii}
use Rattle.std.proofs.lemmas.Str.Pattern.{IsSplitOnceResult, split_once_first, split_parts}
use Rattle.std.proofs.lemmas.List.Elements.{All-from_get_or}
use Rattle.std.proofs.lemmas.List.Splits.{slice_split_first, slice_split_none, length-slice_split, join_with_byte-slice_split}
use Rattle.lines.specs.declared.Line.{Line}
use Rattle.lines.specs.Text.{number, words}
use Rattle.lines.specs.Rows.{Row, no_row, row_at, table, fits, place, meaning, push, read, line, said, parsed}
use Rattle.lines.proofs.Laws.{number_digits, number_unspaced}
use Rattle.lines.proofs.Table.{no_row_past, and_false}

-- ---- words
-- a text with no space is one word; another is its first word and those of what stands behind the space
one_word : (s : List ℕ) → ((i : ℕ) → i < length s → get_or s i 0 ≡ 32 → ⊥) → words s ≡ s ∷ []
one_word s n = slice_split_none (λ c. eqb c 32) s (All-from_get_or (λ c. eqb c 32 ≡ false) s 0 (λ i l. ne_eqb (get_or s i 0) 32 (n i l)))

pub split_words : (s : List ℕ) (r : Option (Bor (List ℕ) × Bor (List ℕ))) → IsSplitOnceResult 32 s r
    → MatchOption r (words s ≡ s ∷ []) (λ x. words s ≡ x.0.now ∷ words x.1.now)
split_words s None h = one_word s (split_parts 32 s None h (lit< tt))
split_words s (Some x) h =
    let f = split_once_first 32 s (Some x) h (lit< tt) in
    rw (f.1, f.2) (slice_split_first (λ c. eqb c 32) s 0 f.0)

-- ---- the numbers behind a name: each row allows those that a u32 holds, and two at most
abbrev all : ℕ → List ℕ → Bool
all m [] = true
all m (x ∷ xs) = eqb x m && all m xs

abbrev limits : List Row → Bool
limits [] = true
limits (r ∷ rs) = (all 4294967295 r.most && leb (length r.most) 2) && limits rs

table_limits : limits table ≡ true
unfolding table
table_limits = refl

abbrev pub numbers : List (List ℕ) → Option (List ℕ)
numbers [] = Some []
numbers (w ∷ ws) = push (number 4294967295 w) (numbers ws)

read_numbers : (most : List ℕ) (ws : List (List ℕ)) → all 4294967295 most ≡ true → length most ≡ length ws → read most ws ≡ numbers ws
unfolding read
read_numbers [] [] t e = refl
read_numbers [] (w ∷ ws) t e = absurd (omega arith)
read_numbers (m ∷ ms) [] t e = absurd (omega arith)
read_numbers (m ∷ ms) (w ∷ ws) t e =
    let p = and_parts (eqb m 4294967295) (all 4294967295 ms) t in
    rw (eqb-true m 4294967295 p.0, read_numbers ms ws p.1 (omega arith))

line_bad : (x : Option (List ℕ)) → line no_row x ≡ Line.Bad
line_bad None = refl
line_bad (Some vs) = refl

row_reads : (rs : List Row) (w : List ℕ) (ws : List (List ℕ)) → limits rs ≡ true
    → line (get_or rs (place rs w (length ws)) no_row) (read (get_or rs (place rs w (length ws)) no_row).most ws) ≡ line (get_or rs (place rs w (length ws)) no_row) (numbers ws)
unfolding place
row_reads [] w ws t = line_bad (read [] ws) ∙ sym (line_bad (numbers ws))
row_reads (r ∷ rs) w ws t =
    let p = and_parts (all 4294967295 r.most && leb (length r.most) 2) (limits rs) t in
    by (fits w (length ws) r) refl (and_parts (all 4294967295 r.most) (leb (length r.most) 2) p.0).0 (row_reads rs w ws p.1)
  where
    by : (b : Bool) → fits w (length ws) r ≡ b → all 4294967295 r.most ≡ true
        → line (get_or rs (place rs w (length ws)) no_row) (read (get_or rs (place rs w (length ws)) no_row).most ws) ≡ line (get_or rs (place rs w (length ws)) no_row) (numbers ws)
        → line (get_or (r ∷ rs) (cond b zero (suc (place rs w (length ws)))) no_row) (read (get_or (r ∷ rs) (cond b zero (suc (place rs w (length ws)))) no_row).most ws)
        ≡ line (get_or (r ∷ rs) (cond b zero (suc (place rs w (length ws)))) no_row) (numbers ws)
    by true e a next = ap (line r) (read_numbers r.most ws a (eqb-true (length r.most) (length ws) (and_parts (bytes_eq r.name w) (eqb (length r.most) (length ws)) e).1))
    by false e a next = next

said_is : (w : List ℕ) (ws : List (List ℕ)) → said (w ∷ ws) ≡ line (row_at (place table w (length ws))) (numbers ws)
unfolding said
said_is w ws = row_reads table w ws table_limits

pub said_bad : (w : List ℕ) (ws : List (List ℕ)) → numbers ws ≡ None → said (w ∷ ws) ≡ Line.Bad
said_bad w ws e = said_is w ws ∙ ap (line (row_at (place table w (length ws)))) e

pub said_numbers : (w : List ℕ) (ws : List (List ℕ)) (ns : List ℕ) → numbers ws ≡ Some ns → length ns ≡ length ws → said (w ∷ ws) ≡ meaning w ns
said_numbers w ws ns e l =
    said_is w ws ∙ ap (line (row_at (place table w (length ws)))) e ∙ ap (λ (n : ℕ). (row_at (place table w n)).means (λ i. get_or ns i 0)) (sym l)

-- past the table's end
crowded : (rs : List Row) (w : List ℕ) (n : ℕ) → limits rs ≡ true → 2 < n → place rs w n ≡ length rs
unfolding place
crowded [] w n t h = refl
crowded (r ∷ rs) w n t h =
    let p = and_parts (all 4294967295 r.most && leb (length r.most) 2) (limits rs) t in
    let few : length r.most ≤ 2 = leb-true (length r.most) 2 (and_parts (all 4294967295 r.most) (leb (length r.most) 2) p.0).1 in
    rw (ne_eqb (length r.most) n (λ e. omega arith), and_false) (ap suc (crowded rs w n p.1 h))

no_row_said : (w : List ℕ) (ws : List (List ℕ)) → place table w (length ws) ≡ length table → said (w ∷ ws) ≡ Line.Bad
no_row_said w ws e = said_is w ws ∙ ap (λ (r : Row). line r (numbers ws)) (no_row_past (place table w (length ws)) e) ∙ line_bad (numbers ws)

said_many : (w : List ℕ) (ws : List (List ℕ)) → 2 < length ws → said (w ∷ ws) ≡ Line.Bad
said_many w ws h = no_row_said w ws (crowded table w (length ws) table_limits h)

-- ---- the second number is the rest of the line
push_none : (o : Option ℕ) → push o None ≡ None
push_none None = refl
push_none (Some v) = refl

second_refused : (w a t : List ℕ) → number 4294967295 t ≡ None → said (w ∷ a ∷ words t) ≡ Line.Bad
second_refused w a t q = by (words t) refl
  where
    by : (ws : List (List ℕ)) → words t ≡ ws → said (w ∷ a ∷ ws) ≡ Line.Bad
    by [] e = absurd (omega (arith, length-slice_split (λ c. eqb c 32) t, ap length e))
    by (x ∷ []) e =
        let same : x ≡ t = rw e at (join_with_byte-slice_split 32 t) in
        said_bad w (a ∷ x ∷ []) (rw (same, q) (push_none (number 4294967295 a)))
    by (x ∷ y ∷ ws) e = said_many w (a ∷ x ∷ y ∷ ws) (omega arith)

-- ---- the paths of `said`: a name alone, with one number and with two
pub alone_said : (s : List ℕ) → words s ≡ s ∷ [] → said (words s) ≡ meaning s []
alone_said s e = ap said e ∙ said_numbers s [] [] refl refl

module _ (s w t : List ℕ) (split : words s ≡ w ∷ words t) where
  one_said : words t ≡ t ∷ [] → said (words s) ≡ said (w ∷ t ∷ [])
  one_said e = ap said (split ∙ ap (λ (ws : List (List ℕ)). w ∷ ws) e)

  pub one_read : words t ≡ t ∷ [] → (x : ℕ) → number 4294967295 t ≡ Some x → said (words s) ≡ meaning w (x ∷ [])
  one_read e x p = one_said e ∙ said_numbers w (t ∷ []) (x ∷ []) (rw p) refl

  pub one_bad : words t ≡ t ∷ [] → number 4294967295 t ≡ None → said (words s) ≡ Line.Bad
  one_bad e p = one_said e ∙ said_bad w (t ∷ []) (rw p)

  module _ (a u : List ℕ) (more : words t ≡ a ∷ words u) where
    two_said : said (words s) ≡ said (w ∷ a ∷ words u)
    two_said = ap said (split ∙ ap (λ (ws : List (List ℕ)). w ∷ ws) more)

    pub two_read : (x y : ℕ) → number 4294967295 a ≡ Some x → number 4294967295 u ≡ Some y → said (words s) ≡ meaning w (x ∷ y ∷ [])
    two_read x y p q =
        two_said
        ∙ ap (λ (ws : List (List ℕ)). said (w ∷ a ∷ ws)) (one_word u (number_unspaced 4294967295 u y q))
        ∙ said_numbers w (a ∷ u ∷ []) (x ∷ y ∷ []) (rw (p, q)) refl

    pub first_bad : number 4294967295 a ≡ None → said (words s) ≡ Line.Bad
    first_bad p = two_said ∙ said_bad w (a ∷ words u) (rw p)

    pub second_bad : number 4294967295 u ≡ None → said (words s) ≡ Line.Bad
    second_bad p = two_said ∙ second_refused w a u p

-- ---- a line that can be read is ASCII
abbrev ascii : List ℕ → Bool
ascii [] = true
ascii (c ∷ s) = ltb c 128 && ascii s

abbrev all_ascii : List (List ℕ) → Bool
all_ascii [] = true
all_ascii (w ∷ ws) = ascii w && all_ascii ws

is_ascii : (s : List ℕ) → ascii s ≡ true → IsAscii s
is_ascii [] e i = omega arith
is_ascii (c ∷ s) e zero = ltb-true c 128 (and_parts (ltb c 128) (ascii s) e).0
is_ascii (c ∷ s) e (suc i) = is_ascii s (and_parts (ltb c 128) (ascii s) e).1 i

onto_ascii : (c : ℕ) (ws : List (List ℕ)) → all_ascii (onto_first c ws) ≡ true → (ltb c 128 ≡ true) × (all_ascii ws ≡ true)
onto_ascii c [] e = ((and_parts (ltb c 128) true (and_parts (ltb c 128 && true) true e).0).0, refl)
onto_ascii c (w ∷ ws) e =
    let p = and_parts (ltb c 128 && ascii w) (all_ascii ws) e in
    let q = and_parts (ltb c 128) (ascii w) p.0 in
    (q.0, and_from (ascii w) (all_ascii ws) q.1 p.1)

words_ascii : (s : List ℕ) → all_ascii (words s) ≡ true → ascii s ≡ true
words_ascii [] e = refl
words_ascii (c ∷ s) e = by (eqb c 32) refl e (words_ascii s)
  where
    by : (b : Bool) → eqb c 32 ≡ b → all_ascii (cond b ([] ∷ words s) (onto_first c (words s))) ≡ true → (all_ascii (words s) ≡ true → ascii s ≡ true) → ltb c 128 && ascii s ≡ true
    by true is a next = and_from (ltb c 128) (ascii s) (lt-ltb c 128 (omega (arith, eqb-true c 32 is))) (next a)
    by false is a next = let p = onto_ascii c (words s) a in and_from (ltb c 128) (ascii s) p.0 (next p.1)

digits_ascii : (w : List ℕ) → all_ascii_digits w ≡ true → ascii w ≡ true
digits_ascii [] e = refl
digits_ascii (c ∷ w) e =
    let p = and_parts (is_ascii_digit c) (all_ascii_digits w) e in
    and_from (ltb c 128) (ascii w) (lt-ltb c 128 (omega (arith, leb-true c 57 (and_parts (leb 48 c) (leb c 57) p.0).1))) (digits_ascii w p.1)

numbers_ascii : (ws : List (List ℕ)) (ns : List ℕ) → numbers ws ≡ Some ns → all_ascii ws ≡ true
numbers_ascii [] ns e = refl
numbers_ascii (w ∷ ws) ns e = by (number 4294967295 w) refl (numbers ws) refl e (numbers_ascii ws)
  where
    by : (o : Option ℕ) → number 4294967295 w ≡ o → (p : Option (List ℕ)) → numbers ws ≡ p → push o p ≡ Some ns
        → ((ms : List ℕ) → numbers ws ≡ Some ms → all_ascii ws ≡ true) → ascii w && all_ascii ws ≡ true
    by None q p r f next = cc
    by (Some v) q None r f next = cc
    by (Some v) q (Some ms) r f next = and_from (ascii w) (all_ascii ws) (digits_ascii w (number_digits 4294967295 w v q)) (next ms r)

abbrev names_ascii : List Row → Bool
names_ascii [] = true
names_ascii (r ∷ rs) = ascii r.name && names_ascii rs

table_ascii : names_ascii table ≡ true
unfolding table
table_ascii = refl

name_ascii : (rs : List Row) (w : List ℕ) (n : ℕ) → names_ascii rs ≡ true → (ascii w ≡ true → ⊥) → place rs w n ≡ length rs
unfolding place
name_ascii [] w n t other = refl
name_ascii (r ∷ rs) w n t other =
    let p = and_parts (ascii r.name) (names_ascii rs) t in
    by (fits w n r) refl p.0 (name_ascii rs w n p.1 other)
  where
    by : (b : Bool) → fits w n r ≡ b → ascii r.name ≡ true → place rs w n ≡ length rs → cond b zero (suc (place rs w n)) ≡ suc (length rs)
    by true e a next = absurd (other (subst (λ (x : List ℕ). ascii x ≡ true) ((bytes_eq-Decides r.name w).0 (and_parts (bytes_eq r.name w) (eqb (length r.most) n) e).0) a))
    by false e a next = ap suc next

said_nothing : said [] ≡ Line.Bad
unfolding said
said_nothing = refl

unreadable : (s : List ℕ) → (IsUtf8 s → ⊥) → said (words s) ≡ Line.Bad
unreadable s other = by (words s) refl
  where
    odd : (w : List ℕ) (ws : List (List ℕ)) → words s ≡ w ∷ ws → (o : Option (List ℕ)) → numbers ws ≡ o → said (w ∷ ws) ≡ Line.Bad
    odd w ws e None q = said_bad w ws q
    odd w ws e (Some ns) q =
        no_row_said w ws
        (name_ascii table w (length ws) table_ascii
        (λ a. other (IsUtf8-from_ascii s (is_ascii s (words_ascii s (rw e (and_from (ascii w) (all_ascii ws) a (numbers_ascii ws ns q))))))))

    by : (ws : List (List ℕ)) → words s ≡ ws → said ws ≡ Line.Bad
    by [] e = said_nothing
    by (w ∷ ws) e = odd w ws e (numbers ws) refl

-- ---- the whole line
pub parsed_long : (s : List ℕ) → 64 < length s → parsed s ≡ Line.Bad
unfolding parsed
parsed_long s h = rw (lt-ltb 64 (length s) h)

pub parsed_short : (s : List ℕ) → length s ≤ 64 → parsed s ≡ said (words s)
unfolding parsed
parsed_short s h = rw (le-ltb 64 (length s) h)

pub parsed_unreadable : (s : List ℕ) → length s ≤ 64 → (IsUtf8 s → ⊥) → parsed s ≡ Line.Bad
parsed_unreadable s h n = parsed_short s h ∙ unreadable s n
