-- What each way through the methods of handles and of permits shows: the laws of words at their two kinds of record. Assumes nothing.
use Prim.Native.Nat.{ℕ, zero, suc, ◌+◌, ◌*◌, ◌/◌, ◌%◌, ◌<◌, ◌≤◌}
use mathlib.Core.Path.{◌≡◌, refl, sym, ap, ◌∙◌, subst}
use mathlib.Core.Bool.{Bool, true, false}
use mathlib.Core.List.{List}
use Rattle.std.specs.Prelude.{Option, None, Some, cond, if◌then◌else◌}
use Rattle.std.specs.List.{count_by, range_with_len}
use native.Mathlib.Nat.{zero-add}
use native.Mathlib.Omega.{arith}
use borrow.Author.Tests.{le-ltb}
use native.Mathlib.Decide.{ℕ_discrete}
use lib.Dec.{eqb, ltb}
use lib.ListN.{length, get_or, set, replicate}
use lib.Seq.{set-get_or, get_or-set_same, get_or-set_other}
use Rattle.live.specs.declared.Live.{Live}
use Rattle.live.specs.Bits.{live_of, none_live}
use Rattle.live.proofs.Laws.{length_live}
use Rattle.model.specs.Table.{vacant, turn, in_place, lookup, was_closed, put, lowest, of, sum}
use Rattle.tables.specs.declared.Handle.{Handle}
use Rattle.tables.specs.declared.Handles.{Handles}
use Rattle.tables.specs.declared.Permit.{Permit}
use Rattle.tables.specs.declared.Permits.{Permits}
use Rattle.tables.specs.declared.Places.{Places}
use Rattle.tables.specs.Places.{spent_by, Used, places_of, is_live, Marks}
use Rattle.tables.specs.Records.{no_handle, handle_turn, marked, no_permit, permit_turn, owner_of, Wiped}
use Rattle.tables.specs.Meaning.{handles_of, handles_sound, permits_of, permits_sound, belongs, is_own}
use Rattle.tables.specs.Calls.{NoHandles, NoPermits, Gives, Drops, Clones, Leaves}
use Rattle.tables.proofs.PlaceLaws.{both_bits, used_blank, places_blank}
use Rattle.tables.proofs.WordLaws as words
use Rattle.tables.proofs.Counts.{counted_by}

-- ---- no record is live, and none was
module _ {A : Type 0} (turn_of : A → ℕ) (limit : ℕ) (p : Places) (e : live_of p.live ≡ none_live) (g : live_of p.spent ≡ none_live) (x : A) (z : turn_of x ≡ 0) where
  pub unused : Used turn_of limit (live_of p.live) (live_of p.spent) (replicate limit x)
  unused =
      subst (λ (l : List Bool). Used turn_of limit l (live_of p.spent) (replicate limit x)) (sym e)
      (subst (λ (m : List Bool). Used turn_of limit none_live m (replicate limit x)) (sym g) (used_blank turn_of limit x z))

pub no_handles : (r : Handles) (x : Handle) → r.table ≡ replicate 16 x → live_of r.places.live ≡ none_live → x ≡ no_handle → NoHandles r
unfolding handles_of
no_handles r x t e z =
    record {
      sound = handles_sound r;
      handles =
          ap (λ (l : List Bool). places_of handle_turn marked l r.table) e
          ∙ (ap (places_of handle_turn marked none_live) t ∙ places_blank handle_turn marked 16 x (ap handle_turn z) (omega arith));
    }

all_alike : {A : Type 0} (n i : ℕ) (x : A) → get_or (replicate n x) i x ≡ x
all_alike zero i x = refl
all_alike (suc n) zero x = refl
all_alike (suc n) (suc i) x = all_alike n i x

pub none_wiped : (l : List Bool) (x : Permit) → x ≡ no_permit → Wiped l (replicate 64 x)
none_wiped l x z i q = ap owner_of (ap (λ (d : Permit). get_or (replicate 64 x) i d) (sym z) ∙ (all_alike 64 i x ∙ z))

pub no_permits : (r : Permits) (x : Permit) → r.table ≡ replicate 64 x → live_of r.places.live ≡ none_live → x ≡ no_permit → NoPermits r
unfolding permits_of
no_permits r x t e z =
    record {
      sound = permits_sound r;
      permits =
          ap (λ (l : List Bool). places_of permit_turn owner_of l r.table) e
          ∙ (ap (places_of permit_turn owner_of none_live) t ∙ places_blank permit_turn owner_of 64 x (ap permit_turn z) (omega arith));
    }

-- ---- handles
module _ (h : Handles) where
  few : 16 ≤ 64
  few = omega arith

  pub handles_marked : Marks 16 (live_of h.places.live) (live_of h.places.spent) (handles_of h)
  unfolding handles_of
  handles_marked = words.marks handle_turn marked no_handle 16 few h.places.live h.places.spent h.table h.used

  pub handle_turn_below : (i : ℕ) → i < 16 → (get_or h.table i no_handle).turn ≡ turn (get_or (handles_of h) i (vacant 0))
  unfolding handles_of
  handle_turn_below = words.turn_below handle_turn marked no_handle 16 few h.places.live h.places.spent h.table h.used

  pub handle_turn_past : (i : ℕ) → 16 ≤ i → 0 ≡ turn (get_or (handles_of h) i (vacant 0))
  unfolding handles_of
  handle_turn_past = words.turn_past handle_turn marked no_handle 16 few h.places.live h.places.spent h.table h.used

  -- a number whose place is past the limit was never given, so it is not closed
  pub handle_never : (n : ℕ) → 16 ≤ n % 64 → false ≡ was_closed (handles_of h) n
  handle_never n b = sym (le-ltb (n / 64) 0 (omega arith)) ∙ ap (ltb (n / 64)) (handle_turn_past (n % 64) b)

  -- a handle at the place found stays as its record is, which holds its turn alone
  module _ (i k : ℕ) (b : i < 16) (e : Some (i + 64 * k) ≡ lowest (handles_of h)) (p : Places) (g : live_of p.live ≡ set (live_of h.places.live) i true) where
    kept : set h.table i (get_or h.table i no_handle) ≡ h.table
    kept = set-get_or h.table i no_handle

    on_turn : (get_or h.table i no_handle).turn ≡ k
    unfolding handles_of
    on_turn = words.turn_found handle_turn marked no_handle 16 few h.places.live h.places.spent h.table h.used i k b e

    pub handle_opened_used : p.spent ≡ h.places.spent → Used handle_turn 16 (live_of p.live) (live_of p.spent) h.table
    unfolding handles_of
    handle_opened_used z =
        subst (λ (m : Live). Used handle_turn 16 (live_of p.live) (live_of m) h.table) (sym z)
        (subst (λ (t : List Handle). Used handle_turn 16 (live_of p.live) (live_of h.places.spent) t) kept
        (words.opened_used handle_turn marked no_handle 16 few h.places.live h.places.spent h.table h.used i k b e (get_or h.table i no_handle) on_turn p.live g))

    pub handle_given : (n : ℕ) → n ≡ i + 64 * k → (r : Handles) → r.places ≡ p → r.table ≡ h.table → Clones h (record { number = Some n; next = r })
    unfolding handles_of
    handle_given n q r c t =
        record {
          sound = handles_sound r;
          number = ap Some q ∙ e;
          handles =
              ap (λ (p : Places). places_of handle_turn marked (live_of p.live) r.table) c
              ∙ (ap (places_of handle_turn marked (live_of p.live)) (t ∙ sym kept)
              ∙ (words.opened_places handle_turn marked no_handle 16 few h.places.live h.places.spent h.table h.used i k b e (get_or h.table i no_handle) on_turn p.live g
              ∙ ap (λ (j : ℕ). put (handles_of h) j tt) (sym q)));
        }

  module _ (n : ℕ) (is : is_live (lookup (handles_of h) n) ≡ true) (place turns : ℕ) (here : place ≡ n % 64) (on : turns ≡ n / 64) where
    handle_next : turns + 1 ≡ n / 64 + 1
    handle_next = omega arith

    pub handle_closing : place < 16
    unfolding handles_of
    handle_closing = words.ending_small handle_turn marked no_handle 16 few h.places.live h.places.spent h.table h.used n is place (turns + 1) here handle_next

    module _ (p : Places) (g : live_of p.live ≡ set (live_of h.places.live) place false) (z : live_of p.spent ≡ spent_by (live_of h.places.spent) place (turns + 1)) where
      abbrev handle_left_over : Handle
      handle_left_over = record { turn = turns + 1 }

      pub handle_closed_used : Used handle_turn 16 (live_of p.live) (live_of p.spent) (set h.table place handle_left_over)
      unfolding handles_of
      handle_closed_used = words.ended_used handle_turn marked no_handle 16 few h.places.live h.places.spent h.table h.used n is place (turns + 1) here handle_next handle_left_over refl p g z

      pub handle_closed : (r : Handles) → r.places ≡ p → r.table ≡ set h.table place handle_left_over → Leaves h n r
      unfolding handles_of
      handle_closed r c t =
          record {
            sound = handles_sound r;
            handles =
                ap (λ (p : Places). places_of handle_turn marked (live_of p.live) r.table) c
                ∙ (ap (places_of handle_turn marked (live_of p.live)) t
                ∙ words.ended_places handle_turn marked no_handle 16 few h.places.live h.places.spent h.table h.used n is place (turns + 1) here handle_next handle_left_over refl p g z);
          }

-- ---- permits
-- places that are not live stay wiped where a record comes, and where one goes that leaves no owner
wiped_open : (l m : List Bool) (t : List Permit) (i : ℕ) (x : Permit) → m ≡ set l i true → i < length l → Wiped l t → Wiped m (set t i x)
wiped_open l m t i x e h w k q =
    let clear : get_or (set l i true) k false ≡ false = ap (λ (b : List Bool). get_or b k false) (sym e) ∙ q in
    let other : k ≡ i → ⊥ = λ z. both_bits (get_or (set l i true) k false) (ap (λ (j : ℕ). get_or (set l i true) j false) z ∙ get_or-set_same l i true false h) clear in
    ap owner_of (get_or-set_other t i k x no_permit other) ∙ w k (sym (get_or-set_other l i k true false other) ∙ clear)

wiped_close : (l m : List Bool) (t : List Permit) (i : ℕ) (x : Permit) → m ≡ set l i false → i < length t → x.owner ≡ 0 → Wiped l t → Wiped m (set t i x)
wiped_close l m t i x e h z w k q = go (ℕ_discrete k i)
  where
    go : Dec (k ≡ i) → (get_or (set t i x) k no_permit).owner ≡ 0
    go (yes y) = ap owner_of (ap (λ (j : ℕ). get_or (set t i x) j no_permit) y ∙ get_or-set_same t i x no_permit h) ∙ z
    go (no d) =
        ap owner_of (get_or-set_other t i k x no_permit d)
        ∙ w k (sym (get_or-set_other l i k false false d) ∙ (ap (λ (b : List Bool). get_or b k false) (sym e) ∙ q))

module _ (h : Permits) where
  all : 64 ≤ 64
  all = omega arith

  pub wide_permits : length (permits_of h) ≡ 64
  unfolding permits_of
  wide_permits = words.wide permit_turn owner_of no_permit 64 all h.places.live h.places.spent h.table h.used

  pub permits_marked : Marks 64 (live_of h.places.live) (live_of h.places.spent) (permits_of h)
  unfolding permits_of
  permits_marked = words.marks permit_turn owner_of no_permit 64 all h.places.live h.places.spent h.table h.used

  pub permit_turn_below : (i : ℕ) → i < 64 → (get_or h.table i no_permit).turn ≡ turn (get_or (permits_of h) i (vacant 0))
  unfolding permits_of
  permit_turn_below = words.turn_below permit_turn owner_of no_permit 64 all h.places.live h.places.spent h.table h.used

  pub permit_turn_past : (i : ℕ) → 64 ≤ i → 0 ≡ turn (get_or (permits_of h) i (vacant 0))
  unfolding permits_of
  permit_turn_past = words.turn_past permit_turn owner_of no_permit 64 all h.places.live h.places.spent h.table h.used

  module _ (i k : ℕ) (b : i < 64) (e : Some (i + 64 * k) ≡ lowest (permits_of h)) (s : ℕ) (p : Places) (g : live_of p.live ≡ set (live_of h.places.live) i true) where
    abbrev new : Permit
    new = record { owner = s; turn = k }

    pub permit_opened_used : p.spent ≡ h.places.spent → Used permit_turn 64 (live_of p.live) (live_of p.spent) (set h.table i new)
    unfolding permits_of
    permit_opened_used z =
        subst (λ (m : Live). Used permit_turn 64 (live_of p.live) (live_of m) (set h.table i new)) (sym z)
        (words.opened_used permit_turn owner_of no_permit 64 all h.places.live h.places.spent h.table h.used i k b e new refl p.live g)

    pub permit_opened_wiped : Wiped (live_of p.live) (set h.table i new)
    permit_opened_wiped = wiped_open (live_of h.places.live) (live_of p.live) h.table i new g (omega (arith, length_live h.places.live)) h.wiped

    pub permit_given : (n : ℕ) → n ≡ i + 64 * k → (r : Permits) → r.places ≡ p → r.table ≡ set h.table i new → Gives h s (record { number = Some n; next = r })
    unfolding permits_of
    permit_given n q r c t =
        record {
          sound = permits_sound r;
          number = ap Some q ∙ e;
          permits =
              ap (λ (p : Places). places_of permit_turn owner_of (live_of p.live) r.table) c
              ∙ (ap (places_of permit_turn owner_of (live_of p.live)) t
              ∙ (words.opened_places permit_turn owner_of no_permit 64 all h.places.live h.places.spent h.table h.used i k b e new refl p.live g
              ∙ ap (λ (j : ℕ). put (permits_of h) j s) (sym q)));
        }

  module _ (n : ℕ) (is : is_live (lookup (permits_of h) n) ≡ true) (place turns : ℕ) (here : place ≡ n % 64) (on : turns ≡ n / 64) (p : Places) (g : live_of p.live ≡ set (live_of h.places.live) place false) (z : live_of p.spent ≡ spent_by (live_of h.places.spent) place (turns + 1)) where
    next : turns + 1 ≡ n / 64 + 1
    next = omega arith

    abbrev left : Permit
    left = record { owner = 0; turn = turns + 1 }

    pub permit_closed_used : Used permit_turn 64 (live_of p.live) (live_of p.spent) (set h.table place left)
    unfolding permits_of
    permit_closed_used = words.ended_used permit_turn owner_of no_permit 64 all h.places.live h.places.spent h.table h.used n is place (turns + 1) here next left refl p g z

    pub permit_closed_wiped : Wiped (live_of p.live) (set h.table place left)
    permit_closed_wiped = wiped_close (live_of h.places.live) (live_of p.live) h.table place left g (omega (arith, h.used.sized)) refl h.wiped

    pub permit_closed : (r : Permits) → r.places ≡ p → r.table ≡ set h.table place left → Drops h n r
    unfolding permits_of
    permit_closed r c t =
        record {
          sound = permits_sound r;
          permits =
              ap (λ (p : Places). places_of permit_turn owner_of (live_of p.live) r.table) c
              ∙ (ap (places_of permit_turn owner_of (live_of p.live)) t
              ∙ words.ended_places permit_turn owner_of no_permit 64 all h.places.live h.places.spent h.table h.used n is place (turns + 1) here next left refl p g z);
        }

  -- ---- owned
  module _ (i s : ℕ) (b : Bool) (e : b ≡ get_or (live_of h.places.live) i false) where
    pub own_live : b ≡ true → eqb s (get_or h.table i no_permit).owner ≡ is_own s (in_place (get_or (permits_of h) i (vacant 0)))
    unfolding permits_of
    own_live t = sym (ap (is_own s) (words.live_in permit_turn owner_of no_permit 64 all h.places.live h.places.spent h.table h.used i b e t))

    pub own_vacant : b ≡ false → b ≡ is_own s (in_place (get_or (permits_of h) i (vacant 0)))
    unfolding permits_of
    own_vacant t = t ∙ sym (ap (is_own s) (words.vacant_in permit_turn owner_of no_permit 64 all h.places.live h.places.spent h.table h.used i b e t))

  -- a place counts as one if it is the sender's own
  pub own_counted : (s : ℕ) → count_by (λ i. is_own s (in_place (get_or (permits_of h) i (vacant 0)))) (range_with_len 0 64) ≡ sum (belongs s) (permits_of h)
  own_counted s =
      ap (λ (n : ℕ). count_by (λ i. is_own s (in_place (get_or (permits_of h) i (vacant 0)))) (range_with_len 0 n)) (sym wide_permits)
      ∙ counted_by (belongs s) (permits_of h) 0 (λ i. is_own s (in_place (get_or (permits_of h) i (vacant 0)))) (λ i. ap (λ (k : ℕ). cond (is_own s (in_place (get_or (permits_of h) k (vacant 0)))) 1 0) (zero-add i) ∙ by (in_place (get_or (permits_of h) i (vacant 0))))
    where
      one : (b : Bool) → ◌≡◌ {A = ℕ} (cond b 1 0) (if b then 1 else 0)
      one true = refl
      one false = refl

      by : (o : Option ℕ) → cond (is_own s o) 1 0 ≡ of (belongs s) o
      by None = refl
      by (Some owner) = one (eqb s owner)
