-- Laws of the numbers of `specs/Text.antt`. Assumes nothing.
use Prim.Native.Nat.{ℕ, ◌+◌, ◌-◌, ◌*◌, ◌^◌, ◌<◌, ◌≤◌, zero-le}
use mathlib.Core.Path.{◌≡◌, refl, sym, ◌∙◌}
use mathlib.Core.List.{List, [], ◌∷◌}
use mathlib.Core.Bool.{Bool, true, false, cond, ◌&&◌}
use native.Mathlib.Omega.{arith}
use native.Mathlib.Decide.{dec_lt}
use mathlib.Core.Logic.{◌≢◌}
use lib.ListN.{length, get_or}
use lib.Dec.{leb}
use borrow.Author.Tests.{ne_eqb, lt-leb, le-leb, leb-true}
use Rattle.std.proofs.Common.{rules}
use Rattle.std.specs.Prelude.{Option, None, Some, Result, Ok, Err}
use Rattle.std.specs.Char.{is_ascii_digit}
use Rattle.std.specs.Str.{all_ascii_digits}
use Rattle.std.specs.Str.Parse.{ParsesUnsigned}
use Rattle.std.specs.Result.{OkIff, result_ok}
use Rattle.std.proofs.lemmas.Str.Parse.{IsNumeralModel, numerals_by_fold, tells_all_ascii_digits, parse_plain, not_in_digits}
use Rattle.lines.specs.Text.{rest, leads, number}

-- what digits say behind a
abbrev pub value : ℕ → List ℕ → ℕ
value a [] = a
value a (c ∷ s) = value (a * 10 + (c - 48)) s

pub own : IsNumeralModel (λ ds. all_ascii_digits ds ≡ true) (value 0)
own = numerals_by_fold _ tells_all_ascii_digits value (search rules)

abbrev pub limited : ℕ → ℕ → Option ℕ
limited most n = cond (leb n most) (Some n) None

rest_is : (most a : ℕ) (s : List ℕ) → rest most a s ≡ cond (all_ascii_digits s) (limited most (value a s)) None
unfolding rest
rest_is most a [] = refl
rest_is most a (c ∷ s) = by (is_ascii_digit c) (rest_is most (a * 10 + (c - 48)) s)
  where
    by : (b : Bool) → rest most (a * 10 + (c - 48)) s ≡ cond (all_ascii_digits s) (limited most (value (a * 10 + (c - 48)) s)) None
        → cond b (rest most (a * 10 + (c - 48)) s) None ≡ cond (b && all_ascii_digits s) (limited most (value (a * 10 + (c - 48)) s)) None
    by true e = e
    by false e = refl

-- past the limit a number stays past it
pub rest_over : (most a : ℕ) (s : List ℕ) → most < a → rest most a s ≡ None
unfolding rest
rest_over most a [] h = rw (lt-leb a most h)
rest_over most a (c ∷ s) h = by (is_ascii_digit c) (rest_over most (a * 10 + (c - 48)) s (omega arith))
  where
    by : (b : Bool) → rest most (a * 10 + (c - 48)) s ≡ None → cond b (rest most (a * 10 + (c - 48)) s) None ≡ None
    by true e = e
    by false e = refl

pub leads_by : (w : List ℕ) → 0 < length w → (get_or w 0 0 ≡ 48 → ⊥) → leads w ≡ true
leads_by [] z f = absurd (omega arith)
leads_by (c ∷ []) z f = refl
leads_by (c ∷ d ∷ w) z f = rw (ne_eqb c 48 f)

pub number_long : (most : ℕ) (w : List ℕ) → 1 < length w → (get_or w 0 0 ≡ 48 → ⊥) → number most w ≡ rest most 0 w
unfolding number
number_long most w l e = rw (leads_by w (omega arith) e)

pub number_one : (most : ℕ) (w : List ℕ) → (length w ≡ 0 → ⊥) → length w ≤ 1 → number most w ≡ rest most 0 w
unfolding number
number_one most [] n l = absurd (n refl)
number_one most (c ∷ []) n l = refl
number_one most (c ∷ d ∷ w) n l = absurd (omega arith)

-- the two together: what is not empty, and has no `0` before another byte, is what its bytes say
pub number_starts : (most : ℕ) (w : List ℕ) → (length w ≡ 0 → ⊥) → (1 < length w → get_or w 0 0 ≡ 48 → ⊥) → number most w ≡ rest most 0 w
number_starts most w n z = by (dec_lt 1 (length w))
  where
    by : Dec (1 < length w) → number most w ≡ rest most 0 w
    by (yes l) = number_long most w l (z l)
    by (no g) = number_one most w n (omega arith)

pub number_is : (most : ℕ) (w : List ℕ) → 0 < length w → (get_or w 0 0 ≡ 48 → ⊥) → number most w ≡ cond (all_ascii_digits w) (limited most (value 0 w)) None
unfolding number
number_is most w z f = rw (leads_by w z f) (rest_is most 0 w)

-- a plus is no digit, and a `0` stands alone
pub number_plus : (most : ℕ) (w : List ℕ) → get_or w 0 0 ≡ 43 → number most w ≡ None
unfolding number rest
number_plus most [] e = refl
number_plus most (c ∷ []) e = rw e
number_plus most (c ∷ d ∷ w) e = rw e

pub number_zero : (most : ℕ) (w : List ℕ) → get_or w 0 0 ≡ 48 → length w ≡ 1 → number most w ≡ Some 0
unfolding number rest
number_zero most [] e l = absurd (omega arith)
number_zero most (c ∷ []) e l = rw (e, le-leb 0 most zero-le)
number_zero most (c ∷ d ∷ w) e l = absurd (omega arith)

pub number_zeros : (most : ℕ) (w : List ℕ) → get_or w 0 0 ≡ 48 → (length w ≡ 1 → ⊥) → number most w ≡ None
unfolding number rest
number_zeros most [] e l = refl
number_zeros most (c ∷ []) e l = absurd (l refl)
number_zeros most (c ∷ d ∷ w) e l = rw e

pub number_none : (most : ℕ) (w : List ℕ) → length w ≡ 0 → number most w ≡ None
unfolding number
number_none most [] e = refl
number_none most (c ∷ w) e = absurd (omega arith)

-- what `parse` reads where neither stands in front
module _ (w : List ℕ) (zero : get_or w 0 0 ≡ 48 → ⊥) where
  refused : ((all_ascii_digits w ≡ true) × (0 < length w) × (value 0 w < 2 ^ 32) → ⊥) → number 4294967295 w ≡ None
  refused n = by (dec_lt 0 (length w)) (all_ascii_digits w) refl (dec_lt (value 0 w) (2 ^ 32))
    where
      by : Dec (0 < length w) → (b : Bool) → all_ascii_digits w ≡ b → Dec (value 0 w < 2 ^ 32) → number 4294967295 w ≡ None
      by (no z) b d v = number_none 4294967295 w (omega arith)
      by (yes z) false d v = number_is 4294967295 w z zero ∙ rw d
      by (yes z) true d (yes v) = absurd (n (d, z, v))
      by (yes z) true d (no v) = number_is 4294967295 w z zero ∙ rw (d, lt-leb (value 0 w) 4294967295 (omega arith))

  parsed_by : {E : Type 0} (r : Result ℕ E) → OkIff r ((all_ascii_digits w ≡ true) × (0 < length w) × (value 0 w < 2 ^ 32)) (value 0 w) → result_ok r ≡ number 4294967295 w
  parsed_by (Ok x) o = sym (number_is 4294967295 w o.0.1 zero ∙ rw (o.0.0, le-leb (value 0 w) 4294967295 (omega arith), o.1))
  parsed_by (Err e) o = sym (refused o)

  pub number_parsed : {E : Type 0} (r : Result ℕ E) → ParsesUnsigned 32 10 w r → (get_or w 0 0 ≡ 43 → ⊥) → result_ok r ≡ number 4294967295 w
  number_parsed r h plus = parsed_by r (parse_plain own 32 w r h plus)

-- a number's bytes are digits
pub number_digits : (most : ℕ) (w : List ℕ) (v : ℕ) → number most w ≡ Some v → all_ascii_digits w ≡ true
unfolding number
number_digits most w v e = by (leads w) (all_ascii_digits w) (rest_is most 0 w) e
  where
    by : (l b : Bool) → rest most 0 w ≡ cond b (limited most (value 0 w)) None → cond l (rest most 0 w) None ≡ Some v → b ≡ true
    by l true r e = refl
    by true false r e = cc
    by false false r e = cc

-- so none is a space
pub number_unspaced : (most : ℕ) (w : List ℕ) (v : ℕ) → number most w ≡ Some v → (i : ℕ) → i < length w → get_or w i 0 ≢ 32
number_unspaced most w v e = not_in_digits own w 32 (number_digits most w v e) (λ r. omega arith)

-- and it is within its limit
pub number_most : (most : ℕ) (w : List ℕ) (v : ℕ) → number most w ≡ Some v → v ≤ most
unfolding number
number_most most w v e = leb-true v most (by (leads w) (all_ascii_digits w) (leb (value 0 w) most) refl (rest_is most 0 w) e)
  where
    by : (l b c : Bool) → leb (value 0 w) most ≡ c → rest most 0 w ≡ cond b (cond c (Some (value 0 w)) None) None → cond l (rest most 0 w) None ≡ Some v → leb v most ≡ true
    by true true true k r e = cc
    by true true false k r e = cc
    by true false c k r e = cc
    by false b c k r e = cc
