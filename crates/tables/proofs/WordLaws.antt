-- WHAT EACH WAY THROUGH A TABLE'S METHODS SHOWS, from the two words and the array: one law for every kind of record. `d` is what a read past the
-- end of the array stands for. Assumes nothing.
use mathlib.Core.Path.{◌≡◌, refl, sym, ap, ap₂, ◌∙◌, subst}
use mathlib.Core.Bool.{Bool, true, false}
use mathlib.Core.List.{List}
use Rattle.std.specs.Prelude.{Option, None, Some}
use Prim.Native.Nat.{ℕ, suc, ◌+◌, ◌*◌, ◌/◌, ◌%◌, ◌<◌, ◌≤◌}
use native.Mathlib.Omega.{arith}
use lib.ListN.{length, get_or, set, get_or-eq_default}
use Rattle.std.proofs.lemmas.Option.{none-some}
use Rattle.model.proofs.TableLaws.{on_turn_lem, has_lowest, lowest_free, lowest_turn}
use Rattle.live.specs.declared.Live.{Live}
use Rattle.live.specs.Bits.{live_of, count_live}
use Rattle.live.proofs.Laws.{length_live, live_below}
use Rattle.model.specs.Table.{Table, vacant, turn, in_place, at_turn, lookup, put, clear, lowest, live, size}
use Rattle.tables.specs.Places.{spent_by, turn_at, Used, places_of, is_live, Marks}
use Rattle.tables.specs.declared.Places.{Places}
use Rattle.tables.proofs.PlaceLaws.{number_place, number_turn, word_each, word_over, turn_at_lem, used_open, used_close, size_places, turn_there, place_live, place_vacant, Stands, stands, places_put, places_clear, live_places}

live_some : {R : Type 0} (o : Option R) → is_live o ≡ true → (a : R) × (o ≡ Some a)
live_some None e = let z : ◌≡◌ {A = ℕ} 0 1 = cc in absurd (omega arith)
live_some (Some a) e = (a, refl)

module _ {A R : Type 0} (turn_of : A → ℕ) (record_of : A → R) (d : A) (limit : ℕ) (few : limit ≤ 64) (w s : Live) (xs : List A) (u : Used turn_of limit (live_of w) (live_of s) xs) where
  abbrev table : Table R
  table = places_of turn_of record_of (live_of w) xs

  long : limit ≤ length (live_of w)
  long = omega (arith, length_live w)

  beside : limit ≤ length (live_of s)
  beside = omega (arith, length_live s)

  pub wide : size (places_of turn_of record_of (live_of w) xs) ≡ limit
  wide = size_places turn_of record_of (live_of w) xs (omega (arith, u.sized, long)) ∙ u.sized

  pub counted : (n : ℕ) → n ≡ count_live (live_of w) → n ≡ live (places_of turn_of record_of (live_of w) xs)
  counted n e = e ∙ sym (live_places turn_of record_of limit (live_of w) xs u.sized long u.within)

  -- what stands at a place that the word was asked of
  module _ (i : ℕ) (b : Bool) (e : b ≡ get_or (live_of w) i false) where
    pub live_small : b ≡ true → i < limit
    live_small t = live_below limit (live_of w) i u.within (sym e ∙ t)

    pub live_in : b ≡ true → in_place (get_or (places_of turn_of record_of (live_of w) xs) i (vacant 0)) ≡ Some (record_of (get_or xs i d))
    live_in t = ap in_place (place_live turn_of record_of (live_of w) xs i d (omega (arith, live_small t, u.sized)) (sym e ∙ t))

    pub vacant_in : b ≡ false → in_place (get_or (places_of turn_of record_of (live_of w) xs) i (vacant 0)) ≡ None
    vacant_in t = ap in_place (place_vacant turn_of record_of (live_of w) xs i (sym e ∙ t))

  -- the turn of a place, live or not: below the limit, and past it
  module _ (i : ℕ) where
    pub turn_below : i < limit → turn_of (get_or xs i d) ≡ turn (get_or (places_of turn_of record_of (live_of w) xs) i (vacant 0))
    turn_below h = sym (turn_there turn_of record_of (live_of w) xs i d (omega (arith, u.sized)) (omega (arith, u.sized, long)))

    pub turn_past : limit ≤ i → 0 ≡ turn (get_or (places_of turn_of record_of (live_of w) xs) i (vacant 0))
    turn_past h = sym (ap turn (get_or-eq_default (places_of turn_of record_of (live_of w) xs) (vacant 0) {n = i} (omega (arith, wide))))

  -- the words tell of each place whether it is live, and whether it is used up
  pub marks : Marks limit (live_of w) (live_of s) table
  marks =
      record {
        few = few;
        sized = wide;
        each = λ i. word_each turn_of record_of (live_of w) xs i (λ h. u.within i (omega (arith, u.sized)));
        over = word_over turn_of record_of limit (live_of w) (live_of s) xs u long;
        count = counted (count_live (live_of w)) refl;
      }

  -- a record opens at the place of the lowest number that can be given, at its turn
  module _ (i k : ℕ) (h : i < limit) (e : Some (i + 64 * k) ≡ lowest table) where
    place : (i + 64 * k) % 64 ≡ i
    place = number_place i k (omega arith)

    turns : (i + 64 * k) / 64 ≡ k
    turns = number_turn i k (omega arith)

    turn_stands : turn (get_or table i (vacant 0)) ≡ k
    turn_stands = ap (λ (j : ℕ). turn (get_or table j (vacant 0))) (sym place) ∙ ((has_lowest table (i + 64 * k) (omega (arith, wide)) (sym e)).on_turn ∙ turns)

    pub turn_found : turn_of (get_or xs i d) ≡ k
    turn_found = turn_below i h ∙ turn_stands

    turn_here : turn_at turn_of xs i ≡ k
    turn_here = turn_at_lem turn_of xs i d (omega (arith, u.sized)) ∙ turn_found

    -- nothing is live there, and the place is not used up
    pub not_live : get_or (live_of w) i false ≡ false
    not_live = go (get_or (live_of w) i false) refl
      where
        none : in_place (get_or table i (vacant 0)) ≡ None
        none =
            sym (on_turn_lem k (get_or table i (vacant 0)) (sym turn_stands))
            ∙ (ap₂ (λ (c j : ℕ). at_turn c (get_or table j (vacant 0))) (sym turns) (sym place) ∙ lowest_free table (i + 64 * k) (omega (arith, wide)) (sym e))

        go : (b : Bool) → get_or (live_of w) i false ≡ b → b ≡ false
        go false q = refl
        go true q = absurd (none-some _ (sym none ∙ live_in i true (sym q) refl))

    pub not_spent : get_or (live_of s) i false ≡ false
    not_spent = go (get_or (live_of s) i false) refl
      where
        go : (b : Bool) → get_or (live_of s) i false ≡ b → b ≡ false
        go false q = refl
        go true q = absurd (omega (arith, (u.over i q).1, turn_here, turns, lowest_turn table (i + 64 * k) (omega (arith, wide)) (sym e)))

    module _ (x : A) (kept : turn_of x ≡ k) (r : Live) (g : live_of r ≡ set (live_of w) i true) where
      pub opened_used : Used turn_of limit (live_of r) (live_of s) (set xs i x)
      opened_used =
          subst (λ (l : List Bool). Used turn_of limit l (live_of s) (set xs i x)) (sym g)
          (used_open turn_of limit (live_of w) (live_of s) xs u i x h not_spent (kept ∙ sym turn_here))

      pub opened_places : places_of turn_of record_of (live_of r) (set xs i x) ≡ put table (i + 64 * k) (record_of x)
      opened_places =
          ap (λ (l : List Bool). places_of turn_of record_of l (set xs i x)) g
          ∙ (ap (λ (j : ℕ). places_of turn_of record_of (set (live_of w) j true) (set xs j x)) (sym place)
          ∙ places_put turn_of record_of (live_of w) xs (i + 64 * k) x (kept ∙ sym turns))

  -- a live record closes
  module _ (n : ℕ) (is : is_live (lookup (places_of turn_of record_of (live_of w) xs) n) ≡ true) where
    standing : (a : R) × Stands turn_of record_of (live_of w) xs n d a
    standing =
        let o = live_some (lookup (places_of turn_of record_of (live_of w) xs) n) is in
        (o.0, stands turn_of record_of limit (live_of w) xs n d o.0 u.sized u.within o.1)

    pub closing_small : n % 64 < limit
    closing_small = live_below limit (live_of w) (n % 64) u.within standing.1.here

    module _ (x : A) (k : turn_of x ≡ n / 64 + 1) (r v : Live) (g : live_of r ≡ set (live_of w) (n % 64) false) (z : live_of v ≡ spent_by (live_of s) (n % 64) (n / 64 + 1)) where
      pub closed_used : Used turn_of limit (live_of r) (live_of v) (set xs (n % 64) x)
      closed_used =
          let here = turn_at_lem turn_of xs (n % 64) d (omega (arith, closing_small, u.sized)) in
          let next : turn_of x ≡ suc (turn_at turn_of xs (n % 64)) = omega (arith, standing.1.on_turn) in
          let spent : live_of v ≡ spent_by (live_of s) (n % 64) (turn_of x) = z ∙ ap (spent_by (live_of s) (n % 64)) (sym k) in
          subst (λ (l : List Bool). Used turn_of limit l (live_of v) (set xs (n % 64) x)) (sym g)
          (subst (λ (m : List Bool). Used turn_of limit (set (live_of w) (n % 64) false) m (set xs (n % 64) x)) (sym spent)
          (used_close turn_of limit (live_of w) (live_of s) xs u (n % 64) x standing.1.here next (omega (arith, closing_small, beside)) (omega (arith, closing_small, long))))

      pub closed_places : places_of turn_of record_of (live_of r) (set xs (n % 64) x) ≡ clear (places_of turn_of record_of (live_of w) xs) n
      closed_places =
          let next : turn_of x ≡ suc (n / 64) = omega arith in
          ap (λ (l : List Bool). places_of turn_of record_of l (set xs (n % 64) x)) g ∙ places_clear turn_of record_of (live_of w) xs n x next

    -- the same, of the place and the turns as they were found
    module _ (place over : ℕ) (here : place ≡ n % 64) (next : over ≡ n / 64 + 1) where
      pub ending_small : place < limit
      ending_small = omega (arith, closing_small)

      module _ (x : A) (k : turn_of x ≡ over) (p : Places) (g : live_of p.live ≡ set (live_of w) place false) (z : live_of p.spent ≡ spent_by (live_of s) place over) where
        live_left : live_of p.live ≡ set (live_of w) (n % 64) false
        live_left = g ∙ ap (λ (i : ℕ). set (live_of w) i false) here

        spent_left : live_of p.spent ≡ spent_by (live_of s) (n % 64) (n / 64 + 1)
        spent_left = z ∙ ap₂ (spent_by (live_of s)) here next

        pub ended_used : Used turn_of limit (live_of p.live) (live_of p.spent) (set xs place x)
        ended_used =
            subst (λ (i : ℕ). Used turn_of limit (live_of p.live) (live_of p.spent) (set xs i x)) (sym here)
            (closed_used x (k ∙ next) p.live p.spent live_left spent_left)

        pub ended_places : places_of turn_of record_of (live_of p.live) (set xs place x) ≡ clear (places_of turn_of record_of (live_of w) xs) n
        ended_places =
            ap (λ (i : ℕ). places_of turn_of record_of (live_of p.live) (set xs i x)) here
            ∙ closed_places x (k ∙ next) p.live p.spent live_left spent_left
