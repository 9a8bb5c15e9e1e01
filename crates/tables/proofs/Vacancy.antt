-- THE PLACE OF THE NEXT RECORD, in any table of which two words tell the live places and the places that are used up: the lowest that is marked in
-- neither. Assumes nothing.
use Prim.Native.Nat.{ℕ, zero, suc, ◌+◌, ◌*◌, ◌/◌, ◌<◌, ◌≤◌}
use mathlib.Core.Path.{◌≡◌, refl, sym, ap, ap₂, ◌∙◌}
use mathlib.Core.Bool.{Bool, true, false, ◌||◌}
use mathlib.Core.List.{List, [], ◌∷◌}
use Rattle.std.specs.Prelude.{None, Some}
use Rattle.std.proofs.Common.{true≢false}
use native.Mathlib.Omega.{arith}
use borrow.Author.Tests.{le-leb, lt-leb, ltb-true, ltb-false}
use lib.Dec.{ltb}
use lib.ListN.{length, get_or}
use Rattle.live.specs.declared.Live.{Live}
use Rattle.live.specs.Bits.{live_of, lowest_clear, either}
use Rattle.live.proofs.Laws.{length_live, lowest_clear_lem}
use Rattle.model.specs.Table.{Place, vacant, holds, turn, in_place, givable, LAST_TURN, Table, lowest, size}
use Rattle.model.proofs.TableLaws.{lowest_is, lowest_not, lowest_turn}
use Rattle.tables.specs.Places.{is_live, Marks}

-- each bit of two words together
either_at : (l m : List Bool) (n : ℕ) → n < length l → n < length m → get_or (either l m) n false ≡ (get_or l n false || get_or m n false)
unfolding either
either_at [] m n h k = absurd (omega arith)
either_at (b ∷ l) [] n h k = absurd (omega arith)
either_at (b ∷ l) (c ∷ m) zero h k = refl
either_at (b ∷ l) (c ∷ m) (suc n) h k = either_at l m n (omega arith) (omega arith)

-- each bit below the lowest clear one is set
set_below : (l : List Bool) (n : ℕ) → n < lowest_clear l → get_or l n false ≡ true
unfolding lowest_clear
set_below [] n h = absurd (omega arith)
set_below (true ∷ l) zero h = refl
set_below (true ∷ l) (suc n) h = set_below l n (omega arith)
set_below (false ∷ l) n h = absurd (omega arith)

-- a place can be given just where it is neither live nor used up
module _ {R : Type 0} where
  given_by : (x : Place R) → (is_live (in_place x) || ltb LAST_TURN (turn x)) ≡ false → givable x ≡ true
  given_by (vacant k) e = le-leb k LAST_TURN (ltb-false LAST_TURN k e)
  given_by (holds k a) e = absurd (true≢false e)

  not_given_by : (x : Place R) → (is_live (in_place x) || ltb LAST_TURN (turn x)) ≡ true → givable x ≡ false
  not_given_by (vacant k) e = lt-leb k LAST_TURN (ltb-true LAST_TURN k e)
  not_given_by (holds k a) e = refl

module _ {R : Type 0} (t : Table R) (l m : List Bool) (p : size t ≤ length l) (q : size t ≤ length m) (each : (i : ℕ) → get_or l i false ≡ is_live (in_place (get_or t i (vacant 0)))) (over : (i : ℕ) → get_or m i false ≡ ltb LAST_TURN (turn (get_or t i (vacant 0)))) where
  marked : (i : ℕ) → i < size t → get_or (either l m) i false ≡ (is_live (in_place (get_or t i (vacant 0))) || ltb LAST_TURN (turn (get_or t i (vacant 0))))
  marked i h = either_at l m i (omega arith) (omega arith) ∙ ap₂ (λ (a b : Bool). a || b) (each i) (over i)

  module _ (i : ℕ) (e : i ≡ lowest_clear (either l m)) where
    passed : (j : ℕ) → j < i → j < size t → givable (get_or t j (vacant 0)) ≡ false
    passed j h small = not_given_by (get_or t j (vacant 0)) (sym (marked j small) ∙ set_below (either l m) j (omega arith))

    pub next_given : i < size t → lowest t ≡ Some (i + 64 * turn (get_or t i (vacant 0)))
    next_given h =
        let clear = ap (λ (j : ℕ). get_or (either l m) j false) e ∙ lowest_clear_lem (either l m) in
        lowest_is t i h (given_by (get_or t i (vacant 0)) (sym (marked i h) ∙ clear)) (λ j b. passed j b (omega arith))

    pub next_none : size t ≤ i → lowest t ≡ None
    next_none h = lowest_not t (λ j b. passed j (omega arith) b)

-- the same of the words that a table answers
module _ {R : Type 0} (limit : ℕ) (w s : Live) (t : Table R) (m : Marks limit (live_of w) (live_of s) t) (i : ℕ) (e : i ≡ lowest_clear (either (live_of w) (live_of s))) where
  inside : size t ≤ length (live_of w)
  inside = omega (arith, m.sized, m.few, length_live w)

  beside : size t ≤ length (live_of s)
  beside = omega (arith, m.sized, m.few, length_live s)

  pub none_vacant : limit ≤ i → None ≡ lowest t
  none_vacant h = sym (next_none t (live_of w) (live_of s) inside beside m.each m.over i e (omega (arith, m.sized)))

  module _ (k : ℕ) (h : i < limit) (on : k ≡ turn (get_or t i (vacant 0))) where
    pub vacancy_given : Some (i + 64 * k) ≡ lowest t
    vacancy_given =
        ap (λ (c : ℕ). Some (i + 64 * c)) on ∙ sym (next_given t (live_of w) (live_of s) inside beside m.each m.over i e (omega (arith, m.sized)))

    pub vacancy_left : k ≤ LAST_TURN
    vacancy_left =
        let turns : (i + 64 * k) / 64 ≡ k = let few = m.few in omega arith in
        omega (arith, turns, lowest_turn t (i + 64 * k) (omega (arith, m.few, m.sized)) (sym vacancy_given))
