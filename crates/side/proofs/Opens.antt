-- What each way through `fresh`, `at` and `open` shows. Assumes nothing.
use Prim.Native.Nat.{ℕ, zero, suc, ◌+◌, ◌*◌, ◌<◌, ◌≤◌, ◌%◌, ◌/◌}
use mathlib.Core.Path.{◌≡◌, refl, sym, ap, ap₂, ◌∙◌, subst}
use mathlib.Core.Bool.{Bool, true, false}
use mathlib.Core.List.Memᴰ
use mathlib.Core.List.{List, [], ◌∷◌, map, Memᴰ}
use Rattle.std.proofs.lemmas.Option.{none-some}
use Rattle.std.specs.Prelude.{ltb, Option, None, Some, unwrap_or, is_some, option_map}
use Rattle.std.specs.Bool.{then_some}
use native.Mathlib.Omega.{arith}
use lib.ListN.{length, get_or, set, replicate}
use lib.Seq.{get_or-set_same, get_or-set_other}
use Rattle.waitlist.specs.declared.WaitList.{WaitList}
use Rattle.waitlist.specs.View.{held, line, along, is_nil}
use Rattle.waitlist.specs.Calls as wait
use Rattle.waitlist.proofs.Segs.{no_id}
use Rattle.live.specs.declared.Live.{Live}
use Rattle.live.specs.Bits.{live_of, none_live}
use Rattle.live.specs.Table.{held as table}
use Rattle.live.proofs.Laws.{length_live}
use Rattle.live.proofs.Tables.{held_free, held_open, held_none}
use Rattle.model.specs.Table.{was_closed, turn, in_place, lowest, Table, put}
use Rattle.tables.specs.declared.Places.{Places}
use Rattle.tables.specs.Places.{Used, places_of, Marks}
use Rattle.tables.proofs.PlaceLaws.{both_bits, used_blank, place_vacant, places_blank}
use Rattle.tables.proofs.WordLaws as words
use Rattle.model.specs.Side as model
use Rattle.side.specs.declared.Op.{Op}
use Rattle.side.specs.declared.Side.{Side}
use Rattle.side.specs.declared.Stage.{Stage}
use Rattle.side.specs.Meaning.{fresh_op, turn_of, number_in, carried, cargo_of, idle_op, Deed, stage_by, deed_by, table_of, side_of, place_in, stage_of, deed_of}
use Rattle.side.specs.Sound.{node_of, node_in, node_at, Ties, SoundBy, Sound}
use Rattle.side.specs.Calls.{Fresh, Opens}
use Rattle.side.proofs.Kept.{sound_of}
use Rattle.side.proofs.Laws.{ties_set}
use Rattle.side.proofs.Numbers.{stored, wiped_fresh, wiped_set, turns_set, lines_turns, live_small, place_holds}

-- ---- fresh
fresh_sound : (x : Op) (p : Places) (w : WaitList) → x ≡ fresh_op → live_of p.live ≡ none_live → live_of p.spent ≡ none_live → wait.Fresh w → SoundBy w (replicate 32 x) p
fresh_sound x p w z e d f =
    record {
      used =
          subst (λ (b : List Bool). Used turn_of 32 b (live_of p.spent) (replicate 32 x)) (sym e)
          (subst (λ (b : List Bool). Used turn_of 32 none_live b (replicate 32 x)) (sym d) (used_blank turn_of 32 x (ap turn_of z)));
      wiped = wiped_fresh (live_of p.live) 32 x z;
      ties = subst (λ (t : List (Option Op)). Ties t w) (sym rows) (record {
        sized = refl;
        list = f.sound;
        owned = record {
          forth = λ op i q. absurd (no_id i (sym (nobody op) ∙ q));
          back = λ i op y q. absurd (none-some _ (sym (f.held i) ∙ q));
          few = λ op q. nobody op;
        };
        stands = λ i m. absurd (Memᴰ.not-nil (subst (Memᴰ i) f.line m));
        lined = λ i op k q. absurd (none-some _ (sym (f.held i) ∙ q));
      });
    }
  where
    rows : table (live_of p.live) (replicate 32 x) ≡ replicate 32 None
    rows = ap (λ (b : List Bool). table b (replicate 32 x)) e ∙ held_none (replicate 32 x) (omega arith)

    nobody : (k : ℕ) → node_at (replicate 32 None) k ≡ None
    nobody k = ap node_in (all_none 32 k)
      where
        all_none : (d k : ℕ) → get_or {A = Option Op} (replicate d None) k None ≡ None
        all_none zero k = refl
        all_none (suc d) zero = refl
        all_none (suc d) (suc k) = all_none d k

pub fresh_kept : (x : Op) (p : Places) (w : WaitList) → x ≡ fresh_op → live_of p.live ≡ none_live → live_of p.spent ≡ none_live → wait.Fresh w → ∥ SoundBy w (replicate 32 x) p ∥₁
fresh_kept x p w z e d f = ∣ fresh_sound x p w z e d f ∣₁

pub fresh_side : (x : Op) (p : Places) (w : WaitList) (kept : ∥ SoundBy w (replicate 32 x) p ∥₁) → x ≡ fresh_op → live_of p.live ≡ none_live → live_of p.spent ≡ none_live → wait.Fresh w
    → Fresh (record { places = p; ops = replicate 32 x; waiters = w; sound = kept })
unfolding side_of along
fresh_side x p w kept z e d f =
    record {
      sound = fresh_sound x p w z e d f;
      side =
          ap₂ (λ (t : Table Deed) (k : List ℕ). record { ops = t; line = map (λ (j : ℕ). number_in (replicate 32 x) (held w j)) k })
          (ap (λ (b : List Bool). places_of turn_of (deed_by w) b (replicate 32 x)) e ∙ places_blank turn_of (deed_by w) 32 x (ap turn_of z) (omega arith))
          f.line;
    }

-- ---- words
pub marked : (s : Side) → Marks 32 (live_of s.places.live) (live_of s.places.spent) (side_of s).ops
unfolding side_of
marked s = words.marks turn_of (deed_by s.waiters) fresh_op 32 (omega arith) s.places.live s.places.spent s.ops (sound_of s).used

-- ---- turn_at, at
module _ (s : Side) (p : ℕ) where
  pub turn_inside : p < 32 → turn_of (stored s p) ≡ turn (place_in s p)
  unfolding side_of
  turn_inside = words.turn_below turn_of (deed_by s.waiters) fresh_op 32 (omega arith) s.places.live s.places.spent s.ops (sound_of s).used p

  pub turn_past : 32 ≤ p → 0 ≡ turn (place_in s p)
  unfolding side_of
  turn_past = words.turn_past turn_of (deed_by s.waiters) fresh_op 32 (omega arith) s.places.live s.places.spent s.ops (sound_of s).used p

  module _ (b : Bool) (e : b ≡ get_or (live_of s.places.live) p false) where
    pub at_small : b ≡ true → p < 32
    at_small t = live_small s p (sym e ∙ t)

    pub at_found : (st : Stage) (j : Option ℕ) → b ≡ true → j ≡ cargo_of (stored s p) → stage_of st ≡ stage_by s.waiters (stored s p).mark
        → option_map deed_of (Some (record { owner = (stored s p).owner; cargo = j; stage = st })) ≡ in_place (place_in s p)
    at_found st j t g q =
        ap₂ (λ (x : Option ℕ) (z : model.Stage). Some (record { owner = (stored s p).owner; job = carried x; stage = z })) g q
        ∙ sym (ap in_place (place_holds s p (sym e ∙ t)))

    pub at_missing : b ≡ false → option_map deed_of None ≡ in_place (place_in s p)
    unfolding side_of
    at_missing t = sym (ap in_place (place_vacant turn_of (deed_by s.waiters) (live_of s.places.live) s.ops p (sym e ∙ t)))

-- ---- open
module _ (s : Side) (h : ℕ) (j : Option ℕ) where
  -- what it keeps
  snd : Sound s
  snd = sound_of s

  pub open_full : None ≡ lowest (side_of s).ops → Opens s h j (record { number = None; next = s })
  open_full e = record { sound = snd; number = e; side = refl }

  module _ (p k : ℕ) (b : p < 32) (e : Some (p + 64 * k) ≡ lowest (side_of s).ops) where
    abbrev bits : List Bool
    bits = live_of s.places.live

    inside : p < length s.ops
    inside = omega (arith, snd.used.sized)

    -- the place is at this turn, and no operation is open there
    found : turn_of (stored s p) ≡ k
    unfolding side_of
    found = words.turn_found turn_of (deed_by s.waiters) fresh_op 32 (omega arith) s.places.live s.places.spent s.ops snd.used p k b e

    clear : get_or bits p false ≡ false
    unfolding side_of
    clear = words.not_live turn_of (deed_by s.waiters) fresh_op 32 (omega arith) s.places.live s.places.spent s.ops snd.used p k b e

    -- the words of the places with the new operation
    abbrev words_with : Live → Live → Places
    words_with l over = record { live = l; spent = over }

    open_sound : (l : Live) (new : Op) → new ≡ idle_op h j k → live_of l ≡ set bits p true → SoundBy s.waiters (set s.ops p new) (words_with l s.places.spent)
    unfolding side_of
    open_sound l new made q =
        record {
          used = words.opened_used turn_of (deed_by s.waiters) fresh_op 32 (omega arith) s.places.live s.places.spent s.ops snd.used p k b e new (ap turn_of made) l q;
          wiped = wiped_set bits (live_of l) s.ops p new inside (λ i d. ap (λ (t : List Bool). get_or t i false) q ∙ get_or-set_other bits p i true false d)
              (λ z. both_bits (get_or (live_of l) p false) (ap (λ (t : List Bool). get_or t p false) q ∙ get_or-set_same bits p true false (omega (arith, length_live s.places.live))) z) snd.wiped;
          ties = subst (λ (t : List (Option Op)). Ties t s.waiters) (sym rows)
              (ties_set (table_of s) s.waiters p (Some new) (ap node_in (held_free bits s.ops p clear)) (ap (λ (x : Op). node_of x.mark) made) snd.ties);
        }
      where
        rows : table (live_of l) (set s.ops p new) ≡ set (table_of s) p (Some new)
        rows = ap (λ (k : List Bool). table k (set s.ops p new)) q ∙ held_open bits s.ops p new

    open_at : (l : Live) (new : Op) (n : ℕ) (kept : ∥ SoundBy s.waiters (set s.ops p new) (words_with l s.places.spent) ∥₁)
        → new ≡ idle_op h j k → live_of l ≡ set bits p true → n ≡ p + 64 * k
        → Opens s h j (record { number = Some n; next = record s { places = words_with l s.places.spent; ops = set s.ops p new; sound = kept } })
    unfolding side_of
    open_at l new n kept made q g =
        record {
          sound = open_sound l new made q;
          number = ap Some g ∙ e;
          side =
              sided
              ∙ (ap (λ (x : Deed). record { ops = put (side_of s).ops (p + 64 * k) x; line = (side_of s).line }) (ap (deed_by s.waiters) made ∙ ap (λ (x : Option ℕ). record { owner = h; job = carried x; stage = model.idle }) (back j))
              ∙ ap (λ (i : ℕ). model.opened i h (carried j) (side_of s)) (sym g));
        }
      where
        back : (x : Option ℕ) → then_some (is_some x) (unwrap_or x 0) ≡ x
        back None = refl
        back (Some k) = refl

        sided : side_of (record s { places = words_with l s.places.spent; ops = set s.ops p new; sound = kept })
            ≡ record { ops = put (side_of s).ops (p + 64 * k) (deed_by s.waiters new); line = (side_of s).line }
        sided =
            ap₂ (λ (t : Table Deed) (z : List ℕ). record { ops = t; line = z })
            (words.opened_places turn_of (deed_by s.waiters) fresh_op 32 (omega arith) s.places.live s.places.spent s.ops snd.used p k b e new (ap turn_of made) l q)
            (lines_turns s.ops (set s.ops p new) s.waiters (turns_set s.ops p new (ap turn_of made ∙ sym found)))

    pub open_kept : (w : Places) (new : Op) → new ≡ idle_op h j k → live_of w.live ≡ set bits p true → w.spent ≡ s.places.spent → ∥ SoundBy s.waiters (set s.ops p new) w ∥₁
    open_kept w new made q z = ∣ subst (λ (x : Live). SoundBy s.waiters (set s.ops p new) (words_with w.live x)) (sym z) (open_sound w.live new made q) ∣₁

    pub open_given : (w : Places) (new : Op) (n : ℕ) (kept : ∥ SoundBy s.waiters (set s.ops p new) w ∥₁)
        → new ≡ idle_op h j k → live_of w.live ≡ set bits p true → w.spent ≡ s.places.spent → n ≡ p + 64 * k
        → Opens s h j (record { number = Some n; next = record s { places = w; ops = set s.ops p new; sound = kept } })
    open_given w new n kept made q z g =
        subst
        (λ (x : Live).
        (kept : ∥ SoundBy s.waiters (set s.ops p new) (words_with w.live x) ∥₁) →
        Opens s h j (record { number = Some n; next = record s { places = words_with w.live x; ops = set s.ops p new; sound = kept } }))
        (sym z)
        (λ kept. open_at w.live new n kept made q g)
        kept

-- ---- line_is_empty
pub empty_line : (s : Side) (b : Bool) → b ≡ is_nil (line s.waiters) → b ≡ is_nil (side_of s).line
unfolding side_of along
empty_line s b e = e ∙ go (line s.waiters)
  where
    go : (l : List ℕ) → is_nil l ≡ is_nil (map (λ (k : ℕ). number_in s.ops (held s.waiters k)) l)
    go [] = refl
    go (x ∷ l) = refl

-- ---- closed: before the place's turn
pub closed_before : (s : Side) (n k : ℕ) → k ≡ turn (place_in s (n % 64)) → ltb (n / 64) k ≡ was_closed (side_of s).ops n
closed_before s n k e = ap (ltb (n / 64)) e
