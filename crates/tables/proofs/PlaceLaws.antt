-- THE LAWS OF AN ARRAY OF RECORDS WITH ITS TWO WORDS, by the operations of the definition's tables: lookup, put, clear, lowest, live, size, blank,
-- each. `d` is what a read past the end of the array stands for. One law for every kind of record. Assumes nothing.
use Rattle.std.specs.Prelude.{if◌then◌else◌}
use mathlib.Core.Path.{◌≡◌, refl, sym, ap, ap₂, ◌∙◌, subst}
use mathlib.Core.Bool.{Bool, true, false}
use mathlib.Core.List.{List, [], ◌∷◌, map}
use Rattle.std.specs.Prelude.{None, Some}
use Prim.Native.Nat.{ℕ, zero, suc, ◌+◌, ◌*◌, ◌/◌, ◌%◌, ◌<◌, ◌≤◌}
use native.Mathlib.Omega.{arith}
use native.Mathlib.Decide.{ℕ_discrete}
use borrow.Author.Tests.{leb-true, leb-false, le-leb, lt-leb, lt-ltb, le-ltb}
use lib.Arith.{le-zero}
use lib.Dec.{leb, ltb}
use lib.ListN.{length, get_or, set, replicate, length-set, length-map, length-replicate}
use lib.Seq.{get_or-set_same, get_or-set_other, set-get_or}
use Rattle.live.specs.Bits.{none_live, lowest_clear, either, count_live}
use Rattle.live.specs.Table.{Within}
use Rattle.live.proofs.Laws.{live_below, within_none, within_with, within_without, within_tail, count_within}
use Rattle.model.specs.Table.{vacant, holds, turn, in_place, at_turn, LAST_TURN, Table, blank, lookup, put, clear, lowest, live, size, each}
use Rattle.model.proofs.TableLaws.{on_turn_lem, off_turn}
use Rattle.tables.specs.Places.{spent_by, turn_at, Used, place_at, places_of, is_live}
use Rattle.tables.proofs.Vacancy.{next_given, next_none}

-- A NUMBER'S PARTS: the place and the turn that it was made of
pub number_place : (i k : ℕ) → i < 64 → (i + 64 * k) % 64 ≡ i
number_place i k h = omega arith

pub number_turn : (i k : ℕ) → i < 64 → (i + 64 * k) / 64 ≡ k
number_turn i k h = omega arith

pub map_set : {A B : Type 0} (f : A → B) (l : List A) (n : ℕ) (a : A) → map f (set l n a) ≡ set (map f l) n (f a)
map_set f [] n a = refl
map_set f (x ∷ l) zero a = refl
map_set f (x ∷ l) (suc n) a = ap (λ (t : List _). f x ∷ t) (map_set f l n a)

-- THE PLACES THAT ARE USED UP, once k turns of the place i are over
module _ (spent : List Bool) (i k : ℕ) where
  pub spent_not : k ≤ LAST_TURN → spent ≡ spent_by spent i k
  spent_not h = sym (ap (λ (t : Bool). if t then spent else set spent i true) (le-leb k LAST_TURN h))

  pub spent_last : (r : List Bool) → LAST_TURN < k → r ≡ set spent i true → r ≡ spent_by spent i k
  spent_last r h e = e ∙ sym (ap (λ (t : Bool). if t then spent else set spent i true) (lt-leb k LAST_TURN h))

-- THE TURNS of the places
module _ {A : Type 0} (turn_of : A → ℕ) where
  pub turn_at_lem : (xs : List A) (i : ℕ) (d : A) → i < length xs → turn_at turn_of xs i ≡ turn_of (get_or xs i d)
  turn_at_lem [] i d h = absurd (omega arith)
  turn_at_lem (x ∷ xs) zero d h = refl
  turn_at_lem (x ∷ xs) (suc i) d h = turn_at_lem xs i d (omega arith)

  turn_set_same : (xs : List A) (i : ℕ) (x : A) → i < length xs → turn_at turn_of (set xs i x) i ≡ turn_of x
  turn_set_same xs i x h =
      ap (λ (t : List ℕ). get_or t i 0) (map_set turn_of xs i x) ∙ get_or-set_same (map turn_of xs) i (turn_of x) 0 (omega (arith, length-map xs turn_of))

  turn_set_other : (xs : List A) (i k : ℕ) (x : A) → (k ≡ i → ⊥) → turn_at turn_of (set xs i x) k ≡ turn_at turn_of xs k
  turn_set_other xs i k x h = ap (λ (t : List ℕ). get_or t k 0) (map_set turn_of xs i x) ∙ get_or-set_other (map turn_of xs) i k (turn_of x) 0 h

  -- a record of the same turn takes a record's place
  turn_kept : (xs : List A) (i : ℕ) (x : A) → turn_of x ≡ turn_at turn_of xs i → (k : ℕ) → turn_at turn_of (set xs i x) k ≡ turn_at turn_of xs k
  turn_kept xs i x e k =
      ap (λ (t : List ℕ). get_or t k 0) (map_set turn_of xs i x ∙ (ap (set (map turn_of xs) i) e ∙ set-get_or (map turn_of xs) i 0))

  turn_first : (n : ℕ) (x : A) → turn_of x ≡ 0 → (i : ℕ) → turn_at turn_of (replicate n x) i ≡ 0
  turn_first zero x e i = refl
  turn_first (suc n) x e zero = e
  turn_first (suc n) x e (suc i) = turn_first n x e i

-- WHAT TIES THE WORDS TO THE TURNS is kept
pub both_bits : {P : Type 0} (b : Bool) → b ≡ true → b ≡ false → P
both_bits b p q = let z : ◌≡◌ {A = ℕ} 0 1 = cc in absurd (omega arith)

module _ {A : Type 0} (turn_of : A → ℕ) where
  pub used_blank : (limit : ℕ) (x : A) → turn_of x ≡ 0 → Used turn_of limit none_live none_live (replicate limit x)
  used_blank limit x e =
      record {
        sized = length-replicate limit x;
        within = within_none limit;
        bounded = within_none limit;
        over = λ i h. both_bits (get_or none_live i false) h (within_none 0 i (omega arith));
        left = λ i h. omega (arith, turn_first turn_of limit x e i);
      }

  module _ (limit : ℕ) (l m : List Bool) (xs : List A) (u : Used turn_of limit l m xs) where
    -- a live place is not used up, so its turn counts on without passing the width
    pub live_unspent : (i : ℕ) → get_or l i false ≡ true → get_or m i false ≡ false
    live_unspent i e = go (get_or m i false) refl
      where
        go : (b : Bool) → get_or m i false ≡ b → b ≡ false
        go true q = both_bits (get_or l i false) e (u.over i q).0
        go false q = refl

    pub live_turn : (i : ℕ) → get_or l i false ≡ true → turn_at turn_of xs i ≤ LAST_TURN
    live_turn i e = u.left i (live_unspent i e)

    -- a live record is written again at its turn
    pub used_write : (i : ℕ) (x : A) → turn_of x ≡ turn_at turn_of xs i → Used turn_of limit l m (set xs i x)
    used_write i x e =
        record {
          sized = length-set xs i x ∙ u.sized;
          within = u.within;
          bounded = u.bounded;
          over = λ k h. ((u.over k h).0, turn_kept turn_of xs i x e k ∙ (u.over k h).1);
          left = λ k h. omega (arith, turn_kept turn_of xs i x e k, u.left k h);
        }

    -- a record opens at a place that is not used up
    pub used_open : (i : ℕ) (x : A) → i < limit → get_or m i false ≡ false → turn_of x ≡ turn_at turn_of xs i → Used turn_of limit (set l i true) m (set xs i x)
    used_open i x small free e =
        record {
          sized = length-set xs i x ∙ u.sized;
          within = within_with limit l i small u.within;
          bounded = u.bounded;
          over = λ k h. (
            get_or-set_other l i k true false (λ z. both_bits (get_or m k false) h (ap (λ (j : ℕ). get_or m j false) z ∙ free)) ∙ (u.over k h).0,
            turn_kept turn_of xs i x e k ∙ (u.over k h).1,
          );
          left = λ k h. omega (arith, turn_kept turn_of xs i x e k, u.left k h);
        }

    -- a live record closes: one more turn of its place is over, and the place is used up if that was the last
    module _ (i : ℕ) (x : A) (is : get_or l i false ≡ true) (e : turn_of x ≡ suc (turn_at turn_of xs i)) where
      small : i < limit
      small = live_below limit l i u.within is

      here : turn_at turn_of (set xs i x) i ≡ turn_of x
      here = turn_set_same turn_of xs i x (omega (arith, small, u.sized))

      closed_left : turn_of x ≤ LAST_TURN → Used turn_of limit (set l i false) m (set xs i x)
      closed_left h =
          record {
            sized = length-set xs i x ∙ u.sized;
            within = within_without limit l i u.within;
            bounded = u.bounded;
            over = λ k q.
                let d : k ≡ i → ⊥ = λ z. both_bits (get_or m k false) q (ap (λ (j : ℕ). get_or m j false) z ∙ live_unspent i is) in
                (get_or-set_other l i k false false d ∙ (u.over k q).0, turn_set_other turn_of xs i k x d ∙ (u.over k q).1);
            left = λ k q. at k q (ℕ_discrete k i);
          }
        where
          at : (k : ℕ) → get_or m k false ≡ false → Dec (k ≡ i) → turn_at turn_of (set xs i x) k ≤ LAST_TURN
          at k q (yes z) = omega (arith, ap (turn_at turn_of (set xs i x)) z, here)
          at k q (no d) = omega (arith, turn_set_other turn_of xs i k x d, u.left k q)

      closed_last : LAST_TURN < turn_of x → i < length m → i < length l → Used turn_of limit (set l i false) (set m i true) (set xs i x)
      closed_last h b c =
          record {
            sized = length-set xs i x ∙ u.sized;
            within = within_without limit l i u.within;
            bounded = within_with limit m i small u.bounded;
            over = λ k q. ends k q (ℕ_discrete k i);
            left = λ k q.
                let d : k ≡ i → ⊥ = λ z. both_bits (get_or (set m i true) k false) (ap (λ (j : ℕ). get_or (set m i true) j false) z ∙ get_or-set_same m i true false b) q in
                omega (arith, turn_set_other turn_of xs i k x d, u.left k (sym (get_or-set_other m i k true false d) ∙ q));
          }
        where
          last : turn_of x ≡ suc LAST_TURN
          last = omega (arith, live_turn i is)

          ends : (k : ℕ) → get_or (set m i true) k false ≡ true → Dec (k ≡ i) → (get_or (set l i false) k false ≡ false) × (turn_at turn_of (set xs i x) k ≡ suc LAST_TURN)
          ends k q (yes z) =
              (ap (λ (j : ℕ). get_or (set l i false) j false) z ∙ get_or-set_same l i false false c, ap (turn_at turn_of (set xs i x)) z ∙ (here ∙ last))
          ends k q (no d) =
              let o = u.over k (sym (get_or-set_other m i k true false d) ∙ q) in
              (get_or-set_other l i k false false d ∙ o.0, turn_set_other turn_of xs i k x d ∙ o.1)

      pub used_close : i < length m → i < length l → Used turn_of limit (set l i false) (spent_by m i (turn_of x)) (set xs i x)
      used_close b c = go (leb (turn_of x) LAST_TURN) refl
        where
          go : (t : Bool) → leb (turn_of x) LAST_TURN ≡ t → Used turn_of limit (set l i false) (if t then m else set m i true) (set xs i x)
          go true q = closed_left (leb-true (turn_of x) LAST_TURN q)
          go false q = closed_last (leb-false (turn_of x) LAST_TURN q) b c

-- WHAT STANDS AT A PLACE, AND AT A NUMBER
module _ {A R : Type 0} (turn_of : A → ℕ) (record_of : A → R) where
  pub size_places : (l : List Bool) (xs : List A) → length xs ≤ length l → size (places_of turn_of record_of l xs) ≡ length xs
  unfolding places_of
  size_places [] [] h = refl
  size_places [] (x ∷ xs) h = absurd (omega arith)
  size_places (b ∷ l) [] h = refl
  size_places (b ∷ l) (x ∷ xs) h = ap suc (size_places l xs (omega arith))

  pub places_at : (l : List Bool) (xs : List A) (i : ℕ) (d : A) → i < length xs → length xs ≤ length l
      → get_or (places_of turn_of record_of l xs) i (vacant 0) ≡ place_at turn_of record_of (get_or l i false) (get_or xs i d)
  unfolding places_of
  places_at l [] i d h g = absurd (omega arith)
  places_at [] (x ∷ xs) i d h g = absurd (omega arith)
  places_at (b ∷ l) (x ∷ xs) zero d h g = refl
  places_at (b ∷ l) (x ∷ xs) (suc i) d h g = places_at l xs i d (omega arith) (omega arith)

  -- its turn, live or not
  pub turn_there : (l : List Bool) (xs : List A) (i : ℕ) (d : A) → i < length xs → length xs ≤ length l
      → turn (get_or (places_of turn_of record_of l xs) i (vacant 0)) ≡ turn_of (get_or xs i d)
  turn_there l xs i d h g = ap turn (places_at l xs i d h g) ∙ by (get_or l i false)
    where
      by : (b : Bool) → turn (place_at turn_of record_of b (get_or xs i d)) ≡ turn_of (get_or xs i d)
      by true = refl
      by false = refl

  pub place_live : (l : List Bool) (xs : List A) (i : ℕ) (d : A) → i < length xs → get_or l i false ≡ true
      → get_or (places_of turn_of record_of l xs) i (vacant 0) ≡ holds (turn_of (get_or xs i d)) (record_of (get_or xs i d))
  unfolding places_of
  place_live l [] i d h e = absurd (omega arith)
  place_live [] (x ∷ xs) i d h e = both_bits false e refl
  place_live (b ∷ l) (x ∷ xs) zero d h e = ap (λ (c : Bool). place_at turn_of record_of c x) e
  place_live (b ∷ l) (x ∷ xs) (suc i) d h e = place_live l xs i d (omega arith) e

  pub place_vacant : (l : List Bool) (xs : List A) (i : ℕ) → get_or l i false ≡ false
      → get_or (places_of turn_of record_of l xs) i (vacant 0) ≡ vacant (turn (get_or (places_of turn_of record_of l xs) i (vacant 0)))
  unfolding places_of
  place_vacant [] xs i e = refl
  place_vacant (b ∷ l) [] i e = refl
  place_vacant (true ∷ l) (x ∷ xs) zero e = both_bits true refl e
  place_vacant (false ∷ l) (x ∷ xs) zero e = refl
  place_vacant (b ∷ l) (x ∷ xs) (suc i) e = place_vacant l xs i e

  module _ (l : List Bool) (xs : List A) (n : ℕ) where
    pub lookup_vacant : get_or l (n % 64) false ≡ false → lookup (places_of turn_of record_of l xs) n ≡ None
    lookup_vacant e = ap (at_turn (n / 64)) (place_vacant l xs (n % 64) e)

    module _ (d : A) (h : n % 64 < length xs) (e : get_or l (n % 64) false ≡ true) where
      pub lookup_here : n / 64 ≡ turn_of (get_or xs (n % 64) d) → lookup (places_of turn_of record_of l xs) n ≡ Some (record_of (get_or xs (n % 64) d))
      lookup_here k =
          ap (at_turn (n / 64)) (place_live l xs (n % 64) d h e)
          ∙ on_turn_lem (n / 64) (holds (turn_of (get_or xs (n % 64) d)) (record_of (get_or xs (n % 64) d))) k

      pub lookup_stale : (n / 64 ≡ turn_of (get_or xs (n % 64) d) → ⊥) → lookup (places_of turn_of record_of l xs) n ≡ None
      lookup_stale k =
          ap (at_turn (n / 64)) (place_live l xs (n % 64) d h e)
          ∙ off_turn (n / 64) (holds (turn_of (get_or xs (n % 64) d)) (record_of (get_or xs (n % 64) d))) k

  -- a live number: its place is live, at its turn, and holds its record
  pub record Stands (l : List Bool) (xs : List A) (n : ℕ) (d : A) (a : R) : Type 0 where
    pub here : get_or l (n % 64) false ≡ true
    pub on_turn : n / 64 ≡ turn_of (get_or xs (n % 64) d)
    pub is : record_of (get_or xs (n % 64) d) ≡ a

  pub stands : (limit : ℕ) (l : List Bool) (xs : List A) (n : ℕ) (d : A) (a : R) → length xs ≡ limit → Within limit l
      → lookup (places_of turn_of record_of l xs) n ≡ Some a → Stands l xs n d a
  stands limit l xs n d a sized w e = go (get_or l (n % 64) false) refl
    where
      none_some : {P : Type 0} → lookup (places_of turn_of record_of l xs) n ≡ None → P
      none_some q = let z : ◌≡◌ {A = ℕ} 0 1 = cc in absurd (omega arith)

      go : (b : Bool) → get_or l (n % 64) false ≡ b → Stands l xs n d a
      go false q = none_some (lookup_vacant l xs n q)
      go true q = at (ℕ_discrete (n / 64) (turn_of (get_or xs (n % 64) d)))
        where
          h : n % 64 < length xs
          h = omega (arith, live_below limit l (n % 64) w q)

          at : Dec (n / 64 ≡ turn_of (get_or xs (n % 64) d)) → Stands l xs n d a
          at (no k) = none_some (lookup_stale l xs n d h q k)
          at (yes k) = let z = lookup_here l xs n d h q k in record { here = q; on_turn = k; is = cc }

  -- A RECORD COMES, GOES, IS WRITTEN
  places_set : (l : List Bool) (xs : List A) (i : ℕ) (b : Bool) (x : A)
      → places_of turn_of record_of (set l i b) (set xs i x) ≡ set (places_of turn_of record_of l xs) i (place_at turn_of record_of b x)
  unfolding places_of
  places_set [] xs i b x = refl
  places_set (c ∷ l) [] zero b x = refl
  places_set (c ∷ l) [] (suc i) b x = refl
  places_set (c ∷ l) (y ∷ xs) zero b x = refl
  places_set (c ∷ l) (y ∷ xs) (suc i) b x = ap (λ (t : Table R). place_at turn_of record_of c y ∷ t) (places_set l xs i b x)

  module _ (l : List Bool) (xs : List A) (n : ℕ) (x : A) where
    pub places_put : turn_of x ≡ n / 64 → places_of turn_of record_of (set l (n % 64) true) (set xs (n % 64) x) ≡ put (places_of turn_of record_of l xs) n (record_of x)
    places_put e =
        places_set l xs (n % 64) true x ∙ ap (λ (k : ℕ). set (places_of turn_of record_of l xs) (n % 64) (holds k (record_of x))) e

    pub places_clear : turn_of x ≡ suc (n / 64) → places_of turn_of record_of (set l (n % 64) false) (set xs (n % 64) x) ≡ clear (places_of turn_of record_of l xs) n
    places_clear e = places_set l xs (n % 64) false x ∙ ap (λ (k : ℕ). set (places_of turn_of record_of l xs) (n % 64) (vacant k)) e

    pub places_write : get_or l (n % 64) false ≡ true → turn_of x ≡ n / 64 → places_of turn_of record_of l (set xs (n % 64) x) ≡ put (places_of turn_of record_of l xs) n (record_of x)
    places_write q e =
        let still : set l (n % 64) true ≡ l = ap (set l (n % 64)) (sym q) ∙ set-get_or l (n % 64) false in
        ap (λ (w : List Bool). places_of turn_of record_of w (set xs (n % 64) x)) (sym still) ∙ places_put e

  -- no record is live, and none ever was
  never_used : (n limit : ℕ) (x : A) → turn_of x ≡ 0 → limit ≤ n → places_of turn_of record_of (replicate n false) (replicate limit x) ≡ blank limit
  unfolding places_of
  never_used zero zero x e h = refl
  never_used zero (suc limit) x e h = absurd (omega arith)
  never_used (suc n) zero x e h = refl
  never_used (suc n) (suc limit) x e h = ap₂ (λ (k : ℕ) (t : Table R). vacant k ∷ t) e (never_used n limit x e (omega arith))

  pub places_blank : (limit : ℕ) (x : A) → turn_of x ≡ 0 → limit ≤ 64 → places_of turn_of record_of none_live (replicate limit x) ≡ blank limit
  unfolding none_live
  places_blank limit x e h = never_used 64 limit x e h

  -- WHAT THE TWO WORDS TELL of each place: is it live, and is it used up
  pub word_each : (l : List Bool) (xs : List A) (i : ℕ) → (length xs ≤ i → get_or l i false ≡ false)
      → get_or l i false ≡ is_live (in_place (get_or (places_of turn_of record_of l xs) i (vacant 0)))
  unfolding places_of
  word_each [] xs i h = refl
  word_each (b ∷ l) [] i h = h (omega arith)
  word_each (true ∷ l) (x ∷ xs) zero h = refl
  word_each (false ∷ l) (x ∷ xs) zero h = refl
  word_each (b ∷ l) (x ∷ xs) (suc i) h = word_each l xs i (λ k. h (omega arith))

  turn_read : (l : List Bool) (xs : List A) (i : ℕ) → length xs ≤ length l → turn_at turn_of xs i ≡ turn (get_or (places_of turn_of record_of l xs) i (vacant 0))
  unfolding places_of
  turn_read [] [] i h = refl
  turn_read [] (x ∷ xs) i h = absurd (omega arith)
  turn_read (b ∷ l) [] i h = refl
  turn_read (true ∷ l) (x ∷ xs) zero h = refl
  turn_read (false ∷ l) (x ∷ xs) zero h = refl
  turn_read (b ∷ l) (x ∷ xs) (suc i) h = turn_read l xs i (omega arith)

  module _ (limit : ℕ) (l m : List Bool) (xs : List A) (u : Used turn_of limit l m xs) (p : limit ≤ length l) where
    pub word_over : (i : ℕ) → get_or m i false ≡ ltb LAST_TURN (turn (get_or (places_of turn_of record_of l xs) i (vacant 0)))
    word_over i = go (get_or m i false) refl
      where
        same : turn_at turn_of xs i ≡ turn (get_or (places_of turn_of record_of l xs) i (vacant 0))
        same = turn_read l xs i (omega (arith, u.sized))

        go : (b : Bool) → get_or m i false ≡ b → get_or m i false ≡ ltb LAST_TURN (turn (get_or (places_of turn_of record_of l xs) i (vacant 0)))
        go true e = e ∙ sym (lt-ltb LAST_TURN (turn (get_or (places_of turn_of record_of l xs) i (vacant 0))) (omega (arith, (u.over i e).1, same)))
        go false e = e ∙ sym (le-ltb LAST_TURN (turn (get_or (places_of turn_of record_of l xs) i (vacant 0))) (omega (arith, u.left i e, same)))

    -- THE NUMBER TO GIVE: the lowest place that is neither live nor used up, at its turn
    module _ (q : limit ≤ length m) (i : ℕ) (e : i ≡ lowest_clear (either l m)) where
      wide : size (places_of turn_of record_of l xs) ≡ limit
      wide = size_places l xs (omega (arith, u.sized)) ∙ u.sized

      each_marked : (j : ℕ) → get_or l j false ≡ is_live (in_place (get_or (places_of turn_of record_of l xs) j (vacant 0)))
      each_marked j = word_each l xs j (λ h. u.within j (omega (arith, u.sized)))

      pub lowest_given : (d : A) → i < limit → lowest (places_of turn_of record_of l xs) ≡ Some (i + 64 * turn_of (get_or xs i d))
      lowest_given d h =
          next_given (places_of turn_of record_of l xs) l m (omega (arith, wide)) (omega (arith, wide)) each_marked word_over i e (omega (arith, wide))
          ∙ ap (λ (k : ℕ). Some (i + 64 * k)) (turn_there l xs i d (omega (arith, u.sized)) (omega (arith, u.sized)))

      pub lowest_none : limit ≤ i → lowest (places_of turn_of record_of l xs) ≡ None
      lowest_none h = next_none (places_of turn_of record_of l xs) l m (omega (arith, wide)) (omega (arith, wide)) each_marked word_over i e (omega (arith, wide))

  -- HOW MANY ARE LIVE: the live word's count
  pub live_places : (limit : ℕ) (l : List Bool) (xs : List A) → length xs ≡ limit → limit ≤ length l → Within limit l → live (places_of turn_of record_of l xs) ≡ count_live l
  unfolding places_of count_live
  live_places limit [] xs s h w = refl
  live_places limit (b ∷ l) [] s h w = sym (le-zero (count_within 0 (b ∷ l) (subst (λ (k : ℕ). Within k (b ∷ l)) (sym s) w)))
  live_places zero (b ∷ l) (x ∷ xs) s h w = absurd (omega arith)
  live_places (suc limit) (true ∷ l) (x ∷ xs) s h w = let q = live_places limit l xs (omega arith) (omega arith) (within_tail limit true l w) in omega arith
  live_places (suc limit) (false ∷ l) (x ∷ xs) s h w = let q = live_places limit l xs (omega arith) (omega arith) (within_tail limit false l w) in omega arith

-- EACH RECORD changed is each record shown otherwise
pub places_each : {A R S : Type 0} (turn_of : A → ℕ) (record_of : A → R) (f : R → S) (l : List Bool) (xs : List A)
    → places_of turn_of (λ x. f (record_of x)) l xs ≡ each f (places_of turn_of record_of l xs)
unfolding places_of
places_each turn_of record_of f [] xs = refl
places_each turn_of record_of f (b ∷ l) [] = refl
places_each turn_of record_of f (true ∷ l) (x ∷ xs) = ap (λ (t : Table _). holds (turn_of x) (f (record_of x)) ∷ t) (places_each turn_of record_of f l xs)
places_each turn_of record_of f (false ∷ l) (x ∷ xs) = ap (λ (t : Table _). vacant (turn_of x) ∷ t) (places_each turn_of record_of f l xs)
