-- NUMBERS AND PLACES. A caller names an operation by its number, place + 64 * turn; the wait list by its place alone. What stands at a number
-- stands at its place, the numbers of open operations differ where their places do, and a line's numbers change only with a turn. Assumes nothing.
use Prim.Native.Nat.{ℕ, zero, suc, ◌+◌, ◌*◌, ◌/◌, ◌%◌, ◌<◌, ◌≤◌}
use mathlib.Core.Path.{◌≡◌, refl, sym, ap, ap₂, ◌∙◌, subst}
use mathlib.Core.Bool.{Bool, true, false}
use mathlib.Core.List.{List, [], ◌∷◌, map, Memᴰ}
use Rattle.std.specs.Prelude.{None, Some}
use native.Mathlib.Nat.{lt_of_not-le}
use native.Mathlib.Decide.{ℕ_discrete}
use native.Mathlib.Omega.{arith}
use lib.ListN.{length, get_or, set, replicate, length-map}
use lib.Seq.{get_or-set_same, get_or-set_other}
use Rattle.arena.specs.declared.Waiter.TheVariants.{Waiting}
use Rattle.waitlist.specs.declared.WaitList.{WaitList}
use Rattle.waitlist.specs.View.{waiter_id, held, line, along, op_of}
use Rattle.waitlist.proofs.Segs.{no_id}
use Rattle.waitlist.proofs.Laws.{map_same}
use Rattle.live.specs.Bits.{live_of}
use Rattle.live.proofs.Laws.{length_live, live_below}
use Rattle.live.proofs.Tables.{held_live, held_free}
use Rattle.model.specs.Table.{holds, at_turn, LAST_TURN, lookup}
use Rattle.model.proofs.TableLaws.{on_turn_lem}
use Rattle.tables.specs.Places.{Used, place_at}
use Rattle.tables.proofs.PlaceLaws.{number_place, number_turn, places_at, Stands, stands}
use Rattle.tables.proofs.WordLaws.{wide}
use Rattle.side.specs.declared.Op.{Op}
use Rattle.side.specs.declared.Side.{Side}
use Rattle.side.specs.Meaning.{Deed, blank_op, fresh_op, turn_of, number_at, number_in, deed_by, table_of, side_of, place_in}
use Rattle.side.specs.Sound.{node_at, Wiped, Sound}
use Rattle.side.specs.Calls.{Open}
use Rattle.side.proofs.Kept.{sound_of}

abbrev pub stored : Side → ℕ → Op
stored s p = get_or s.ops p fresh_op

-- ---- the numbers along a line
pub lines_same : (xs ys : List Op) (w : WaitList) → ((k : ℕ) → Memᴰ k (line w) → number_in ys (held w k) ≡ number_in xs (held w k)) → along (number_in ys) w ≡ along (number_in xs) w
unfolding along
lines_same xs ys w h = map_same (λ (k : ℕ). number_in ys (held w k)) (λ (k : ℕ). number_in xs (held w k)) (line w) h

-- another record of the same turn
pub turns_set : (xs : List Op) (i : ℕ) (x : Op) → turn_of x ≡ turn_of (get_or xs i fresh_op) → (k : ℕ) → turn_of (get_or (set xs i x) k fresh_op) ≡ turn_of (get_or xs k fresh_op)
turns_set [] i x e k = refl
turns_set (y ∷ xs) zero x e zero = e
turns_set (y ∷ xs) zero x e (suc k) = refl
turns_set (y ∷ xs) (suc i) x e zero = refl
turns_set (y ∷ xs) (suc i) x e (suc k) = turns_set xs i x e k

pub lines_turns : (xs ys : List Op) (w : WaitList) → ((k : ℕ) → turn_of (get_or ys k fresh_op) ≡ turn_of (get_or xs k fresh_op)) → along (number_in ys) w ≡ along (number_in xs) w
lines_turns xs ys w h = lines_same xs ys w (λ k m. let p : ℕ = op_of (held w k) in ap (λ (j : ℕ). p + 64 * j) (h p))

-- the words fit any records of the same turns
pub used_turns : (live spent : List Bool) (xs ys : List Op) → map turn_of ys ≡ map turn_of xs → Used turn_of 32 live spent xs → Used turn_of 32 live spent ys
used_turns live spent xs ys e u =
    record {
      sized = sym (length-map ys turn_of) ∙ (ap length e ∙ (length-map xs turn_of ∙ u.sized));
      within = u.within;
      bounded = u.bounded;
      over = λ i h. ((u.over i h).0, ap (λ (l : List ℕ). get_or l i 0) e ∙ (u.over i h).1);
      left = λ i h. subst (λ (l : List ℕ). get_or l i 0 ≤ LAST_TURN) (sym e) (u.left i h);
    }

-- ---- nothing but its turn stands at a place that is not live
wiped_by : (x y : Op) → x ≡ y → y ≡ blank_op (turn_of y) → x ≡ blank_op (turn_of x)
wiped_by x y e h = e ∙ (h ∙ ap (λ (z : Op). blank_op (turn_of z)) (sym e))

pub wiped_fresh : (live : List Bool) (d : ℕ) (x : Op) → x ≡ fresh_op → Wiped live (replicate d x)
wiped_fresh live d x e k _ = wiped_by (get_or (replicate d x) k fresh_op) fresh_op (each d k) refl
  where
    each : (d k : ℕ) → get_or (replicate d x) k fresh_op ≡ fresh_op
    each zero k = refl
    each (suc d) zero = e
    each (suc d) (suc k) = each d k

-- one record and its bit change
pub wiped_set : (live live' : List Bool) (xs : List Op) (p : ℕ) (x : Op) → p < length xs → ((k : ℕ) → (k ≡ p → ⊥) → get_or live' k false ≡ get_or live k false)
    → (get_or live' p false ≡ false → x ≡ blank_op (turn_of x)) → Wiped live xs → Wiped live' (set xs p x)
wiped_set live live' xs p x inside other here h k e = go (ℕ_discrete k p)
  where
    go : Dec (k ≡ p) → get_or (set xs p x) k fresh_op ≡ blank_op (turn_of (get_or (set xs p x) k fresh_op))
    go (yes q) =
        wiped_by (get_or (set xs p x) k fresh_op) x (ap (λ (j : ℕ). get_or (set xs p x) j fresh_op) q ∙ get_or-set_same xs p x fresh_op inside)
        (here (ap (λ (j : ℕ). get_or live' j false) (sym q) ∙ e))
    go (no d) = wiped_by (get_or (set xs p x) k fresh_op) (get_or xs k fresh_op) (get_or-set_other xs p k x fresh_op d) (h k (sym (other k d) ∙ e))

-- ---- what stands at a place of the model's table
module _ (s : Side) where
  -- what it keeps
  snd : Sound s
  snd = sound_of s

  abbrev bits : List Bool
  bits = live_of s.places.live

  abbrev deed : ℕ → Deed
  deed p = deed_by s.waiters (stored s p)

  pub wide_ops : length (side_of s).ops ≡ 32
  unfolding side_of
  wide_ops = wide turn_of (deed_by s.waiters) fresh_op 32 (omega arith) s.places.live s.places.spent s.ops snd.used

  pub live_small : (p : ℕ) → get_or bits p false ≡ true → p < 32
  live_small p e = live_below 32 bits p snd.used.within e

  -- what stands at a place of the model's table
  pub place_at_lem : (p : ℕ) → p < 32 → place_in s p ≡ place_at turn_of (deed_by s.waiters) (get_or bits p false) (stored s p)
  unfolding side_of
  place_at_lem p small = places_at turn_of (deed_by s.waiters) bits s.ops p fresh_op (omega (arith, snd.used.sized)) (omega (arith, snd.used.sized, length_live s.places.live))

  pub place_holds : (p : ℕ) → get_or bits p false ≡ true → place_in s p ≡ holds (turn_of (stored s p)) (deed p)
  place_holds p e = place_at_lem p (live_small p e) ∙ ap (λ (b : Bool). place_at turn_of (deed_by s.waiters) b (stored s p)) e

  -- the row of a live place, and back
  pub live_row : (p : ℕ) → get_or bits p false ≡ true → get_or (table_of s) p None ≡ Some (stored s p)
  live_row p e = held_live bits s.ops p fresh_op (omega (arith, snd.used.sized, live_small p e)) e

  pub row_live : (p : ℕ) (op : Op) → get_or (table_of s) p None ≡ Some op → (get_or bits p false ≡ true) × (op ≡ stored s p)
  row_live p op e = go (get_or bits p false) refl
    where
      go : (b : Bool) → get_or bits p false ≡ b → (get_or bits p false ≡ true) × (op ≡ stored s p)
      go true q = let h = live_row p q in (q, cc)
      go false q = let h = held_free bits s.ops p q in let z : ◌≡◌ {A = ℕ} 0 1 = cc in absurd (omega arith)

  -- the operation at a live place is found by its number
  pub live_number : (p : ℕ) → get_or bits p false ≡ true → lookup (side_of s).ops (number_at s.ops p) ≡ Some (deed p)
  live_number p e =
      let k : ℕ = turn_of (stored s p) in
      let small = live_small p e in
      let place : (p + 64 * k) % 64 ≡ p = number_place p k (omega arith) in
      let times : (p + 64 * k) / 64 ≡ k = number_turn p k (omega arith) in
      ap₂ (λ (i j : ℕ). at_turn i (place_in s j)) times place ∙ (ap (at_turn k) (place_holds p e) ∙ on_turn_lem k (holds k (deed p)) refl)

  -- ---- an open operation
  module _ (n : ℕ) (o : Open s n) where
    found : Stands turn_of (deed_by s.waiters) bits s.ops n fresh_op o.0
    unfolding side_of
    found = stands turn_of (deed_by s.waiters) 32 bits s.ops n fresh_op o.0 snd.used.sized snd.used.within o.1

    pub is_live_lem : get_or bits (n % 64) false ≡ true
    is_live_lem = found.here

    pub is_small : n % 64 < 32
    is_small = live_small (n % 64) is_live_lem

    pub in_array : (p : ℕ) → p ≡ n % 64 → p < 32
    in_array p e = omega (arith, is_small)

    -- its turn is its place's
    pub turn_row : turn_of (stored s (n % 64)) ≡ n / 64
    turn_row = sym found.on_turn

    pub the_number : number_at s.ops (n % 64) ≡ n
    the_number = omega (arith, turn_row)

    pub deed_row : lookup (side_of s).ops n ≡ Some (deed (n % 64))
    deed_row = o.1 ∙ ap Some (sym found.is)

    pub holds_row : place_in s (n % 64) ≡ holds (n / 64) (deed (n % 64))
    holds_row = place_holds (n % 64) is_live_lem ∙ ap (λ (k : ℕ). holds k (deed (n % 64))) turn_row

    pub the_deed : (d : Deed) → lookup (side_of s).ops n ≡ Some d → d ≡ deed (n % 64)
    the_deed d e = let q = deed_row in cc

  -- ---- whoever stands in line has one of the 32 places, and its node is that place's
  pub line_place : (k : ℕ) → Memᴰ k (line s.waiters) → (op_of (held s.waiters k) < 32) × (node_at (table_of s) (op_of (held s.waiters k)) ≡ Some (waiter_id k))
  line_place k m =
      let h = snd.ties.stands k m in
      let q : op_of (held s.waiters k) ≡ h.0 = ap op_of h.2 in
      let node : node_at (table_of s) (op_of (held s.waiters k)) ≡ Some (waiter_id k) = ap (node_at (table_of s)) q ∙ snd.ties.owned.back k h.0 (Waiting h.1) h.2 in
      (lt_of_not-le (λ b. no_id k (sym (snd.ties.owned.few (op_of (held s.waiters k)) b) ∙ node)), node)

  -- and so who stands in line with the number n is the node of n's place
  pub line_node : (n k : ℕ) → Memᴰ k (line s.waiters) → n ≡ number_in s.ops (held s.waiters k) → node_at (table_of s) (n % 64) ≡ Some (waiter_id k)
  line_node n k m e =
      let l = line_place k m in
      let small : op_of (held s.waiters k) < 32 = l.0 in
      let q : n % 64 ≡ op_of (held s.waiters k) = omega arith in
      ap (node_at (table_of s)) q ∙ l.1
