-- Laws of the table of `specs/Rows.antt`. Assumes nothing.
use Prim.Native.Nat.{ℕ, zero, suc, ◌<◌, ◌≤◌, zero-le}
use mathlib.Core.Path.{◌≡◌, refl, sym, ap}
use mathlib.Core.List.{List, [], ◌∷◌}
use mathlib.Core.Bool.{Bool, true, false, cond, ◌&&◌}
use native.Mathlib.Omega.{arith}
use native.Mathlib.Nat.{le_of_suc-le-suc, not-suc-le-zero}
use lib.ListN.{length, get_or, get_or-eq_default}
use lib.Arith.{lt_of_le-ne}
use lib.Dec.{eqb, leb}
use borrow.Author.Tests.{eqb-true, leb-true}
use Rattle.std.specs.Str.{bytes_eq}
use Rattle.std.proofs.lemmas.Bool.{and_parts}
use Rattle.std.proofs.lemmas.Slice.Eq.{bytes_eq-Decides}
use Rattle.lines.specs.declared.Line.TheVariants as Line
use Rattle.lines.specs.Rows.{Row, no_row, row_at, table, fits, place, meaning}

-- no row with n numbers has the name w
abbrev pub Unnamed : List Row → ℕ → List ℕ → Type 0
Unnamed [] n w = Unit {0}
Unnamed (r ∷ rs) n w = cond (eqb (length r.most) n) ((w ≡ r.name → ⊥) × Unnamed rs n w) (Unnamed rs n w)

pub and_false : (b : Bool) → b && false ≡ false
and_false true = refl
and_false false = refl

other_name : (s t : List ℕ) → (t ≡ s → ⊥) → bytes_eq s t ≡ false
other_name s t n = by (bytes_eq s t) refl
  where
    by : (b : Bool) → bytes_eq s t ≡ b → b ≡ false
    by true e = absurd (n (sym ((bytes_eq-Decides s t).0 e)))
    by false e = refl

unplaced : (rs : List Row) (n : ℕ) (w : List ℕ) → Unnamed rs n w → place rs w n ≡ length rs
unfolding place
unplaced [] n w u = refl
unplaced (r ∷ rs) n w u = by (eqb (length r.most) n) refl u (unplaced rs n w)
  where
    by : (b : Bool) → eqb (length r.most) n ≡ b → cond b ((w ≡ r.name → ⊥) × Unnamed rs n w) (Unnamed rs n w)
        → (Unnamed rs n w → place rs w n ≡ length rs) → place (r ∷ rs) w n ≡ suc (length rs)
    by true e (other, more) next = rw (e, other_name r.name w other) (ap suc (next more))
    by false e more next = rw (e, and_false) (ap suc (next more))

-- ---- the row that `place` finds
-- it fits
pub place_fits : (rs : List Row) (w : List ℕ) (n : ℕ) → place rs w n < length rs → fits w n (get_or rs (place rs w n) no_row) ≡ true
unfolding place
place_fits [] w n h = absurd (not-suc-le-zero h)
place_fits (r ∷ rs) w n h = by (fits w n r) refl h (place_fits rs w n)
  where
    by : (b : Bool) → fits w n r ≡ b → cond b zero (suc (place rs w n)) < suc (length rs)
        → (place rs w n < length rs → fits w n (get_or rs (place rs w n) no_row) ≡ true)
        → fits w n (get_or (r ∷ rs) (cond b zero (suc (place rs w n))) no_row) ≡ true
    by true e l next = e
    by false e l next = next (le_of_suc-le-suc l)

-- so it has as many limits as there are numbers
pub place_count : (w : List ℕ) (n : ℕ) → place table w n < length table → length (row_at (place table w n)).most ≡ n
place_count w n h =
    let r = row_at (place table w n) in
    eqb-true (length r.most) n (and_parts (bytes_eq r.name w) (eqb (length r.most) n) (place_fits table w n h)).1

-- ---- the table's length, and that of its names
pub rows : length table ≡ 20
unfolding table
rows = refl

abbrev short : List Row → Bool
short [] = true
short (r ∷ rs) = leb (length r.name) 11 && short rs

short_at : (rs : List Row) → short rs ≡ true → (k : ℕ) → length (get_or rs k no_row).name ≤ 11
short_at [] e k = zero-le
short_at (r ∷ rs) e zero = leb-true (length r.name) 11 (and_parts (leb (length r.name) 11) (short rs) e).0
short_at (r ∷ rs) e (suc k) = short_at rs (and_parts (leb (length r.name) 11) (short rs) e).1 k

table_short : short table ≡ true
unfolding table
table_short = refl

-- a name has eleven bytes at most
pub name_short : (k : ℕ) → length (row_at k).name ≤ 11
name_short = short_at table table_short

-- ---- past the table's end
-- what the last arm of a `match k { 0 => .., 1 => .., .., _ => .. }` knows: k is none of the numbers below n
abbrev pub Out : ℕ → ℕ → Type 0
Out k zero = Unit {0}
Out k (suc n) = Out k n × (k ≡ n → ⊥)

pub out_above : (k n : ℕ) → Out k n → n ≤ k
out_above k zero o = zero-le
out_above k (suc n) o = lt_of_le-ne (out_above k n o.0) (λ e. o.1 (sym e))

pub no_row_lem : (k : ℕ) → length table ≤ k → row_at k ≡ no_row
no_row_lem k h = get_or-eq_default table no_row h

pub no_row_past : (k : ℕ) → k ≡ length table → get_or table k no_row ≡ no_row
no_row_past k e = no_row_lem k (omega arith)

-- then it is no call's
pub unnamed : (w ns : List ℕ) → Unnamed table (length ns) w → Line.Bad ≡ meaning w ns
unnamed w ns u = rw (no_row_past (place table w (length ns)) (unplaced table (length ns) w u), meaning)
