-- What each way through the functions shows: one lemma for an exit. Assumes nothing.
use Prim.Native.Nat.{ℕ, suc, ◌+◌, ◌*◌, ◌/◌, ◌%◌, ◌<◌}
use mathlib.Core.Path.{◌≡◌, refl, sym, ap, ap₂, ◌∙◌, subst}
use mathlib.Core.Bool.{Bool, true, false}
use mathlib.Core.Logic.{⊎_elim}
use mathlib.Core.List.Memᴰ
use mathlib.Core.List.{List, [], ◌∷◌, ◌++◌, map, Memᴰ}
use Rattle.std.proofs.lemmas.Option.{none-some}
use Rattle.std.specs.Prelude.{Option, None, Some, option_to_list}
use native.Mathlib.Decide.{ℕ_discrete}
use native.Mathlib.Omega.{arith}
use lib.ListN.{length, get_or, set, length-set}
use lib.Seq.{ext_get_or, get_or-set_same, get_or-set_other, set-get_or, set-set}
use mir.Val.{Fits}
use mir.Syntax.{w8}
use Rattle.arena.specs.declared.WaiterId.{WaiterId}
use Rattle.arena.specs.declared.Waiter.{Waiter}
use Rattle.arena.specs.declared.Waiter.TheVariants.{Waiting}
use Rattle.arena.specs.Lists as lists
use Rattle.arena.specs.Lists.{NotIn}
use Rattle.waitlist.specs.declared.WaitList.{WaitList}
use Rattle.waitlist.specs.declared.Held.{Held}
use Rattle.waitlist.specs.declared.Pushed.{Pushed}
use Rattle.waitlist.specs.declared.Dropped.{Dropped}
use Rattle.waitlist.specs.View.{waiter_id, held, renew, line, along, op_of, count}
use Rattle.waitlist.specs.Calls.{Pushes, Unlinks, Refreshes, Gone, Drops}
use Rattle.waitlist.proofs.Segs.{same_id, no_id}
use Rattle.waitlist.proofs.Room.{room}
use Rattle.waitlist.proofs.Laws.{line_once, along_pushed, along_unlinked, along_gone, along_refreshed}
use Rattle.live.specs.Bits.{live_of}
use Rattle.live.specs.Table.{held as table}
use Rattle.live.proofs.Laws.{length_live}
use Rattle.live.proofs.Tables.{held_write, held_close}
use Rattle.model.specs.Table.{vacant, holds, Table, lookup, put, clear}
use Rattle.model.specs.Side as model
use Rattle.model.specs.Queue.{Job}
use Rattle.model.proofs.TableLaws.{change_live, has_live, lookup_put}
use Rattle.tables.specs.declared.Places.{Places}
use Rattle.tables.specs.Places.{is_live, spent_by, Used, place_at, places_of}
use Rattle.tables.proofs.PlaceLaws.{both_bits, turn_at_lem, used_write, size_places, places_at}
use Rattle.tables.proofs.WordLaws.{closed_used, closed_places}
use Rattle.wakes.proofs.Steps.{op_renew}
use Rattle.side.specs.declared.Mark.{Mark}
use Rattle.side.specs.declared.Mark.TheVariants.{Idle, At, Void}
use Rattle.side.specs.declared.Op.{Op}
use Rattle.side.specs.declared.Side.{Side}
use Rattle.side.specs.declared.Stage.{Stage}
use Rattle.side.specs.Meaning.{blank_op, fresh_op, turn_of, number_at, number_in, Deed, stage_in, stage_by, deed_by, table_of, side_of, stage_of}
use Rattle.side.specs.Sound.{node_of, node_in, node_at, Ties, Wiped, SoundBy, Sound}
use Rattle.side.specs.Calls.{Open, Alone, Leaves, Refreshed, Detached, Detaches, Joins, Ends, Pends}
use Rattle.arena.proofs.Lists.{without_in, without_keeps, without_out}
use Rattle.side.proofs.Kept.{sound_of}
use Rattle.side.proofs.Lists.{without_none, without_map}
use Rattle.side.proofs.Laws.{mark_at, node_waits, kept_some, kept_none, same_op, Only, Link, tied, loose, Lined, deeds_slot, ties_slot, ties_set}
use Rattle.side.proofs.Numbers.{stored, wiped_set, lines_same, turns_set, lines_turns, wide_ops, place_at_lem, live_row, is_small, is_live_lem, turn_row, the_number, deed_row, holds_row, the_deed, line_place, line_node}

-- ---- the wait list alone
pub leaves : (w : WaitList) (id : WaiterId) (u : WaitList) (d : Dropped) → Unlinks w id.0.0 u → Drops u id.0.0 d → Leaves w id.0.0 d.list
leaves w id u d a b =
    record {
      sound = b.sound;
      here = g.here;
      there = λ k q. g.there k q ∙ a.held k;
      reads = λ f. along_gone f u i d out g ∙ along_unlinked f w i u a;
      line = g.line ∙ a.line;
    }
  where
    i : ℕ
    i = id.0.0

    out : NotIn i (line u)
    out = subst (NotIn i) (sym a.line) (without_out i (line w) (line_once w))

    g : Gone u i d
    g = b.gone out

-- ---- an open operation, at its place
module _ (s : Side) where
  -- what it keeps
  snd : Sound s
  snd = sound_of s

  abbrev w : WaitList
  w = s.waiters

  abbrev bits : List Bool
  bits = live_of s.places.live

  abbrev rows : List (Option Op)
  rows = table_of s

  wide : length rows ≡ 32
  wide = snd.ties.sized

  module _ (n : ℕ) (o : Open s n) where
    abbrev place : ℕ
    place = n % 64

    abbrev was : Op
    was = stored s place

    small : place < 32
    small = is_small s n o

    inside : place < length s.ops
    inside = omega (arith, small, snd.used.sized)

    row : get_or rows place None ≡ Some was
    row = live_row s place (is_live_lem s n o)

    node_row : node_at rows place ≡ node_of was.mark
    node_row = ap node_in row

    -- THE RECORD x AT THE PLACE, of the same turn
    record Again (x : Op) (ops' : List Op) : Type 0 where
      used : Used turn_of 32 bits (live_of s.places.spent) ops'
      wiped : Wiped bits ops'
      tabled : table bits ops' ≡ set rows place (Some x)
      here : get_or ops' place fresh_op ≡ x
      other : (k : ℕ) → (k ≡ place → ⊥) → get_or ops' k fresh_op ≡ stored s k
      turns : (k : ℕ) → turn_of (get_or ops' k fresh_op) ≡ turn_of (stored s k)

    again : (x : Op) → turn_of x ≡ turn_of was → Again x (set s.ops place x)
    again x e =
        record {
          used = used_write turn_of 32 bits (live_of s.places.spent) s.ops snd.used place x (e ∙ sym (turn_at_lem turn_of s.ops place fresh_op inside));
          wiped = wiped_set bits bits s.ops place x inside (λ k d. refl) (λ e. both_bits (get_or bits place false) (is_live_lem s n o) e) snd.wiped;
          tabled = held_write bits s.ops place x (is_live_lem s n o);
          here = get_or-set_same s.ops place x fresh_op inside;
          other = λ k d. get_or-set_other s.ops place k x fresh_op d;
          turns = turns_set s.ops place x e;
        }

    still : Again was s.ops
    still =
        record {
          used = snd.used;
          wiped = snd.wiped;
          tabled = sym (ap (set rows place) (sym row) ∙ set-get_or rows place None);
          here = refl;
          other = λ k d. refl;
          turns = λ k. refl;
        }

    -- and another wait list, in which at most the node i is another: it was n's or nobody's
    module _ (x : Op) (ops' : List Op) (a : Again x ops') (w' : WaitList) (i : ℕ) (c : Only rows (set rows place (Some x)) w w' place i) where
      sound_again : Link (node_of x.mark) (held w' i) place i → Lined w w' i → SoundBy w' ops' s.places
      sound_again l m =
          record {
            used = a.used;
            wiped = a.wiped;
            ties = subst (λ (t : List (Option Op)). Ties t w') (sym a.tabled)
                (ties_slot rows (set rows place (Some x)) w w' snd.ties place i c (subst (λ (z : Option WaiterId). Link z (held w' i) place i) (sym (ap node_in now)) l) m);
          }
        where
          now : get_or (set rows place (Some x)) place None ≡ Some x
          now = get_or-set_same rows place (Some x) None (omega (arith, wide, small))

      side_again : (k : ∥ SoundBy w' ops' s.places ∥₁) → side_of (record s { ops = ops'; waiters = w'; sound = k })
          ≡ record { ops = put (side_of s).ops n (deed_by w' x); line = along (number_in s.ops) w' }
      unfolding side_of
      side_again k =
          ap₂ (λ (t : Table Deed) (l : List ℕ). record { ops = t; line = l })
          (ext_get_or (vacant 0) new (put (side_of s).ops n (deed_by w' x)) (size ∙ sym (length-set (side_of s).ops place (holds (n / 64) (deed_by w' x)) ∙ wide_ops s)) (λ k b. go k (omega (arith, size)) (ℕ_discrete k place)))
          (lines_turns s.ops ops' w' a.turns)
        where
          new : Table Deed
          new = places_of turn_of (deed_by w') bits ops'

          size : length new ≡ 32
          size = size_places turn_of (deed_by w') bits ops' (omega (arith, a.used.sized, length_live s.places.live)) ∙ a.used.sized

          at : (k : ℕ) → k < 32 → get_or new k (vacant 0) ≡ place_at turn_of (deed_by w') (get_or bits k false) (get_or ops' k fresh_op)
          at k b = places_at turn_of (deed_by w') bits ops' k fresh_op (omega (arith, a.used.sized)) (omega (arith, a.used.sized, length_live s.places.live))

          here : get_or new place (vacant 0) ≡ holds (n / 64) (deed_by w' x)
          here =
              at place small
              ∙ (ap₂ (place_at turn_of (deed_by w')) (is_live_lem s n o) a.here
              ∙ ap (λ (k : ℕ). holds k (deed_by w' x)) (ap turn_of (sym a.here) ∙ (a.turns place ∙ turn_row s n o)))

          there : (k : ℕ) → (k ≡ place → ⊥) → (b : Bool) → get_or bits k false ≡ b → place_at turn_of (deed_by w') b (stored s k) ≡ place_at turn_of (deed_by w) b (stored s k)
          there k d true e = ap (holds (turn_of (stored s k))) (deeds_slot rows (set rows place (Some x)) w w' snd.ties place i c k (stored s k) d (live_row s k e))
          there k d false e = refl

          go : (k : ℕ) → k < 32 → Dec (k ≡ place) → get_or new k (vacant 0) ≡ get_or (put (side_of s).ops n (deed_by w' x)) k (vacant 0)
          go k b (yes e) =
              ap (λ (j : ℕ). get_or new j (vacant 0)) e
              ∙ (here
              ∙ (sym (get_or-set_same (side_of s).ops place (holds (n / 64) (deed_by w' x)) (vacant 0) (omega (arith, small, wide_ops s)))
              ∙ ap (λ (j : ℕ). get_or (put (side_of s).ops n (deed_by w' x)) j (vacant 0)) (sym e)))
          go k b (no d) =
              at k b
              ∙ (ap (place_at turn_of (deed_by w') (get_or bits k false)) (a.other k d)
              ∙ (there k d (get_or bits k false) refl
              ∙ (sym (place_at_lem s k b) ∙ sym (get_or-set_other (side_of s).ops place k (holds (n / 64) (deed_by w' x)) (vacant 0) d))))

    -- n had node i; n had none and i was free
    only_node : (x : Op) (i : ℕ) (w' : WaitList) → node_at rows place ≡ Some (waiter_id i) → ((k : ℕ) → (k ≡ i → ⊥) → held w' k ≡ held w k)
        → Only rows (set rows place (Some x)) w w' place i
    only_node x i w' e there =
        record {
          small = small;
          sized = length-set rows place (Some x) ∙ wide;
          other = λ k d. get_or-set_other rows place k (Some x) None d;
          there = there;
          was = λ op y q. let f = snd.ties.owned.forth place i e in same_op op place y f.0 (sym q ∙ f.1);
          had = λ k q. same_id k i (sym q ∙ e);
        }

    only_free : (x : Op) (i : ℕ) (w' : WaitList) → node_at rows place ≡ None → held w i ≡ None → ((k : ℕ) → (k ≡ i → ⊥) → held w' k ≡ held w k)
        → Only rows (set rows place (Some x)) w w' place i
    only_free x i w' e h there =
        record {
          small = small;
          sized = length-set rows place (Some x) ∙ wide;
          other = λ k d. get_or-set_other rows place k (Some x) None d;
          there = there;
          was = λ op y q. absurd (none-some _ (sym h ∙ q));
          had = λ k q. absurd (no_id k (sym e ∙ q));
        }

    -- not in line
    not_lined : ((k : ℕ) → Memᴰ k (line w) → node_at rows place ≡ Some (waiter_id k) → ⊥) → model.without n (side_of s).line ≡ (side_of s).line
    unfolding side_of along
    not_lined h = without_none (λ (k : ℕ). number_in s.ops (held w k)) n (line w) (λ k m e. h k m (line_node s n k m e))

    -- ---- detach
    alone_same : node_at rows place ≡ None → Detaches s n s
    alone_same e =
        record {
          sound = snd;
          alone = e;
          side = λ d q. record {
            stage = d.stage;
            side = sym (ap₂ (λ (t : Table Deed) (l : List ℕ). record { ops = t; line = l }) (put_same d q) (not_lined (λ k m h. no_id k (sym e ∙ h))));
          };
        }
      where
        put_same : (d : Deed) → lookup (side_of s).ops n ≡ Some d → put (side_of s).ops n d ≡ (side_of s).ops
        put_same d q =
            ap (set (side_of s).ops place) (ap (holds (n / 64)) (the_deed s n o d q) ∙ sym (holds_row s n o)) ∙ set-get_or (side_of s).ops place (vacant 0)

    -- the code reads the place off the number: p is that place
    pub detach_none : (p : ℕ) → p ≡ place → ((id : WaiterId) → (stored s p).mark ≡ At id → ⊥) → Detaches s n s
    detach_none p here h = alone_same (node_row ∙ go was.mark (subst (λ (k : ℕ). (id : WaiterId) → (stored s k).mark ≡ At id → ⊥) here h))
      where
        go : (m : Mark) → ((id : WaiterId) → m ≡ At id → ⊥) → node_of m ≡ None
        go Idle d = refl
        go (At id) d = absurd (d id refl)
        go Void d = refl

    -- the records once the place k has the mark m
    abbrev marked : ℕ → Mark → List Op
    marked k m = set s.ops k (record (stored s k) { mark = m })

    abbrev NodelessKept : ℕ → Type 0
    NodelessKept k = (id : WaiterId) (w' : WaitList) → (stored s k).mark ≡ At id → Leaves w id.0.0 w' → ∥ SoundBy w' (marked k Idle) s.places ∥₁

    abbrev Nodeless : ℕ → Type 0
    Nodeless k = (id : WaiterId) (w' : WaitList) → (stored s k).mark ≡ At id → Leaves w id.0.0 w'
        → (kept : ∥ SoundBy w' (marked k Idle) s.places ∥₁) → Detaches s n (record s { ops = marked k Idle; waiters = w'; sound = kept })

    nodeless : (id : WaiterId) (w' : WaitList) → was.mark ≡ At id → Leaves w id.0.0 w'
        → SoundBy w' (marked place Idle) s.places × ((kept : ∥ SoundBy w' (marked place Idle) s.places ∥₁) → Detaches s n (record s { ops = marked place Idle; waiters = w'; sound = kept }))
    unfolding side_of along
    nodeless id w' e u = (
      sound,
      λ kept. record {
        sound = sound;
        alone = ap (λ (t : List (Option Op)). node_at t place) (again new refl).tabled ∙ ap node_in (get_or-set_same rows place (Some new) None (omega (arith, wide, small)));
        side = λ d q. record {
          stage = model.idle;
          side =
              side_again new (set s.ops place new) (again new refl) w' i only kept
              ∙ ap₂ (λ (x : Deed) (l : List ℕ). record { ops = put (side_of s).ops n (model.re_stage (λ old. model.idle) x); line = l }) (sym (the_deed s n o d q)) (u.reads (number_in s.ops) ∙ sym lines);
        };
      },
    )
      where
        i : ℕ
        i = id.0.0

        new : Op
        new = record was { mark = Idle }

        node : node_at rows place ≡ Some (waiter_id i)
        node = node_row ∙ ap node_of e

        only : Only rows (set rows place (Some new)) w w' place i
        only = only_node new i w' node u.there

        number : number_in s.ops (held w i) ≡ n
        number = ap (number_in s.ops) (snd.ties.owned.forth place i node).1 ∙ the_number s n o

        lines : model.without n (side_of s).line ≡ map (λ (k : ℕ). number_in s.ops (held w k)) (lists.without i (line w))
        lines =
            ap (λ (j : ℕ). model.without j (side_of s).line) (sym number)
            ∙ without_map (λ (k : ℕ). number_in s.ops (held w k)) i (line w) (line_once w) (λ k m q. same_id i k (sym node ∙ line_node s n k m (sym number ∙ q)))

        sound : SoundBy w' (marked place Idle) s.places
        sound =
            sound_again new (set s.ops place new) (again new refl) w' i only (loose refl u.here) (record {
              sound = u.sound;
              stays = λ k d m. subst (Memᴰ k) (sym u.line) (without_keeps i k (line w) d m);
              stood = λ k d m. without_in i k (line w) (subst (Memᴰ k) u.line m);
              stands = λ m. absurd (without_out i (line w) (line_once w) (subst (Memᴰ i) u.line m));
              lined = λ op k q. absurd (none-some _ (sym u.here ∙ q));
            })

    pub detach_kept : (p : ℕ) → p ≡ place → NodelessKept p
    detach_kept p here = subst NodelessKept (sym here) (λ id w' e u. ∣ (nodeless id w' e u).0 ∣₁)

    pub detach_node : (p : ℕ) → p ≡ place → Nodeless p
    detach_node p here = subst Nodeless (sym here) (λ id w' e u. (nodeless id w' e u).1)

    pub is_byte : (p : ℕ) → p ≡ place → Fits w8 p
    is_byte p here = record { fits = omega (arith, small) }

    -- the mark of n, where it is open
    mark_row : (st : model.Stage) → model.mark n st (side_of s).ops ≡ put (side_of s).ops n (model.re_stage (λ old. st) (deed_by w was))
    mark_row st = change_live (side_of s).ops n (model.re_stage (λ old. st)) (deed_by w was) (deed_row s n o)

    -- ---- join
    pub join_room : Alone s n → count w < 32
    join_room a = room (node_at rows) w snd.ties.owned place small a

    abbrev JoinedKept : ℕ → Type 0
    JoinedKept k = (t : ℕ) (p : Pushed) → Alone s n → Pushes w k (Waiting t) p → ∥ SoundBy p.list (marked k (At p.id)) s.places ∥₁

    abbrev Joined : ℕ → Type 0
    Joined k = (t : ℕ) (p : Pushed) → Alone s n → Pushes w k (Waiting t) p
        → (kept : ∥ SoundBy p.list (marked k (At p.id)) s.places ∥₁) → Joins s n t (record s { ops = marked k (At p.id); waiters = p.list; sound = kept })

    joined : (t : ℕ) (p : Pushed) → Alone s n → Pushes w place (Waiting t) p
        → SoundBy p.list (marked place (At p.id)) s.places × ((kept : ∥ SoundBy p.list (marked place (At p.id)) s.places ∥₁) → Joins s n t (record s { ops = marked place (At p.id); waiters = p.list; sound = kept }))
    unfolding side_of
    joined t p a u = (
      sound,
      λ kept. record {
        sound = sound;
        side =
            side_again new (set s.ops place new) (again new refl) w' i only kept
            ∙ ap₂ (λ (k : Table Deed) (l : List ℕ). record { ops = k; line = l })
            (ap (λ (h : Option Held). put (side_of s).ops n (model.re_stage (λ old. stage_in h) (deed_by w was))) u.here ∙ sym (mark_row (model.waiting t)))
            lines;
      },
    )
      where
        w' : WaitList
        w' = p.list

        i : ℕ
        i = p.id.0.0

        new : Op
        new = record was { mark = At p.id }

        only : Only rows (set rows place (Some new)) w w' place i
        only = only_free new i w' a u.free u.there

        lines : along (number_in s.ops) w' ≡ (side_of s).line ++ (n ∷ [])
        lines = along_pushed (number_in s.ops) w place (Waiting t) p u ∙ ap (λ (k : ℕ). (side_of s).line ++ (k ∷ [])) (the_number s n o)

        sound : SoundBy w' (marked place (At p.id)) s.places
        sound =
            sound_again new (set s.ops place new) (again new refl) w' i only (tied (Waiting t) refl u.here) (record {
              sound = u.sound;
              stays = λ k d m. subst (Memᴰ k) (sym u.line) (Memᴰ.append_left (i ∷ []) m);
              stood = λ k d m. ⊎_elim (λ q. q) (λ q. absurd (d (Memᴰ.eq_of_singleton q))) (Memᴰ.append_cases (line w) (subst (Memᴰ k) u.line m));
              stands = λ m. (place, t, u.here);
              lined = λ op k q. subst (Memᴰ i) (sym u.line) (Memᴰ.append_right (line w) (Memᴰ.head refl));
            })

    pub join_kept : (p : ℕ) → p ≡ place → JoinedKept p
    join_kept p here = subst JoinedKept (sym here) (λ t p a u. ∣ (joined t p a u).0 ∣₁)

    pub join_done : (p : ℕ) → p ≡ place → Joined p
    join_done p here = subst Joined (sym here) (λ t p a u. (joined t p a u).1)

    -- ---- pend
    pub open_detached : (out : Side) → Detaches s n out → Open out n
    open_detached out u =
        let d = u.side o.0 o.1 in
        let new = model.re_stage (λ old. d.stage) o.0 in
        (new, ap (λ (q : model.Side Job). lookup q.ops n) d.side ∙ lookup_put (side_of s).ops n new (has_live (side_of s).ops n o.0 o.1))

    -- the node i of n holds another waiter, and the table is as it was
    module _ (i : ℕ) (x : Waiter) (w' : WaitList) (node : node_at rows place ≡ Some (waiter_id i)) (here : held w' i ≡ Some (record { op = place; waiter = x }))
        (there : (k : ℕ) → (k ≡ i → ⊥) → held w' k ≡ held w k) where
      pub side_renewed : (k : ∥ SoundBy w' s.ops s.places ∥₁) → side_of (record s { waiters = w'; sound = k })
          ≡ record { ops = model.mark n (stage_in (Some (record { op = place; waiter = x }))) (side_of s).ops; line = along (number_in s.ops) w' }
      side_renewed k =
          side_again was s.ops still w' i (only_node was i w' node there) k
          ∙ ap (λ (k : Table Deed). record { ops = k; line = along (number_in s.ops) w' })
          (ap (λ (st : model.Stage). put (side_of s).ops n (model.re_stage (λ old. st) (deed_by w was))) stage ∙ sym (mark_row (stage_in (Some (record { op = place; waiter = x })))))
        where
          stage : stage_by w' was.mark ≡ stage_in (Some (record { op = place; waiter = x }))
          stage = ap (stage_by w') (mark_at was.mark i (sym node_row ∙ node)) ∙ ap stage_in here

      pub sound_renewed : Lined w w' i → SoundBy w' s.ops s.places
      sound_renewed m = sound_again was s.ops still w' i (only_node was i w' node there) (tied x (sym node_row ∙ node) here) m

    module _ (p : ℕ) (at : p ≡ place) (st : Stage) (kp : Option ℕ) (t : ℕ) (told : stage_of st ≡ stage_by w (stored s p).mark) (f : option_to_list kp ≡ model.kept (stage_of st)) where
      e : stage_of st ≡ stage_by w was.mark
      e = told ∙ ap (λ (k : ℕ). stage_by w (stored s k).mark) at

      -- in line: the node is refreshed
      pend_again : (old : ℕ) (w' : WaitList) → kp ≡ Some old → Refreshed w (stored s p).mark t w'
          → SoundBy w' s.ops s.places × ((ret : Option ℕ) (kept : ∥ SoundBy w' s.ops s.places ∥₁) → option_to_list ret ≡ model.replaced (model.waiting old) t → Pends s n t (record { retired = ret; side = record s { waiters = w'; sound = kept } }))
      unfolding side_of
      pend_again old w' g changed = (
        sound,
        λ ret kept h. record {
          sound = sound;
          side = λ d q.
              side_renewed i (Waiting t) w' node here r.there kept
              ∙ (ap (λ (l : List ℕ). record { ops = model.mark n (model.waiting t) (side_of s).ops; line = l }) (along_refreshed (number_in s.ops) w i (Waiting t) w' (λ v. ap (number_at s.ops) (op_renew (Waiting t) v)) r)
              ∙ ap (λ (z : model.Stage). model.pended z n t (side_of s)) (sym (stage_of_lem d q)));
          retired = λ d q. h ∙ ap (λ (z : model.Stage). model.replaced z t) (sym (stage_of_lem d q));
        },
      )
        where
          waits : stage_by w was.mark ≡ model.waiting old
          waits = sym e ∙ kept_some (stage_of st) old (sym (ap option_to_list g) ∙ f)

          a : (i : ℕ) × (was.mark ≡ At (waiter_id i)) × (op : ℕ) × (held w i ≡ Some (record { op = op; waiter = Waiting old }))
          a = node_waits w was.mark old waits

          i : ℕ
          i = a.0

          node : node_at rows place ≡ Some (waiter_id i)
          node = node_row ∙ ap node_of a.1

          r : Refreshes w i (Waiting t) w'
          r = changed i (ap (λ (k : ℕ). node_of (stored s k).mark) at ∙ ap node_of a.1)

          here : held w' i ≡ Some (record { op = place; waiter = Waiting t })
          here = r.here ∙ ap (renew (Waiting t)) (snd.ties.owned.forth place i node).1

          stage_of_lem : (d : Deed) → lookup (side_of s).ops n ≡ Some d → d.stage ≡ model.waiting old
          stage_of_lem d q = ap (λ (z : Deed). z.stage) (the_deed s n o d q) ∙ waits

          sound : SoundBy w' s.ops s.places
          sound =
              sound_renewed i (Waiting t) w' node here r.there (record {
                sound = r.sound;
                stays = λ k d m. subst (Memᴰ k) (sym r.line) m;
                stood = λ k d m. subst (Memᴰ k) r.line m;
                stands = λ m. (place, t, here);
                lined = λ op k q. subst (Memᴰ i) (sym r.line) (snd.ties.lined i a.2 old a.3);
              })

      pub pend_kept : (old : ℕ) (w' : WaitList) → kp ≡ Some old → Refreshed w (stored s p).mark t w' → ∥ SoundBy w' s.ops s.places ∥₁
      pend_kept old w' g changed = ∣ (pend_again old w' g changed).0 ∣₁

      pub pend_refresh : (old : ℕ) (ret : Option ℕ) (w' : WaitList) (kept : ∥ SoundBy w' s.ops s.places ∥₁) → kp ≡ Some old → option_to_list ret ≡ model.replaced (model.waiting old) t
          → Refreshed w (stored s p).mark t w' → Pends s n t (record { retired = ret; side = record s { waiters = w'; sound = kept } })
      pend_refresh old ret w' kept g h changed = (pend_again old w' g changed).1 ret kept h

      -- else it joins the tail
      pub pend_join : (out r : Side) → kp ≡ None → Detaches s n out → Joins out n t r → Pends s n t (record { retired = None; side = r })
      pend_join out r g u v =
          record {
            sound = v.sound;
            side = λ d q.
                let b = u.side d q in
                let d' = model.re_stage (λ old. b.stage) d in
                let has = has_live (side_of s).ops n d q in
                v.side
                ∙ (ap (λ (z : model.Side Job). record { ops = model.mark n (model.waiting t) z.ops; line = z.line ++ (n ∷ []) }) b.side
                ∙ (ap (λ (k : Table Deed). record { ops = k; line = model.without n (side_of s).line ++ (n ∷ []) })
                (change_live (put (side_of s).ops n d') n (model.re_stage (λ old. model.waiting t)) d' (lookup_put (side_of s).ops n d' has)
                ∙ (set-set (side_of s).ops place (holds (n / 64) d') (holds (n / 64) (model.re_stage (λ old. model.waiting t) d))
                ∙ sym (change_live (side_of s).ops n (model.re_stage (λ old. model.waiting t)) d q)))
                ∙ ap (λ (l : List ℕ). record { ops = model.mark n (model.waiting t) (side_of s).ops; line = l })
                (ap (λ (l : List ℕ). l ++ (n ∷ [])) (not_lined out_of_line) ∙ sym (kept_none d.stage n t (side_of s).line (none_kept d q)).0)));
            retired = λ d q. (kept_none d.stage n t (side_of s).line (none_kept d q)).1;
          }
        where
          none_kept : (d : Deed) → lookup (side_of s).ops n ≡ Some d → [] ≡ model.kept d.stage
          none_kept d q = sym (ap option_to_list g) ∙ (f ∙ ap model.kept (e ∙ sym (ap (λ (z : Deed). z.stage) (the_deed s n o d q))))

          out_of_line : (k : ℕ) → Memᴰ k (line w) → node_at rows place ≡ Some (waiter_id k) → ⊥
          out_of_line k m node =
              let h = snd.ties.stands k m in
              let p : stage_by w was.mark ≡ model.waiting h.1 =
              ap (stage_by w) (mark_at was.mark k (sym node_row ∙ node)) ∙ ap stage_in h.2 in
              let x : [] ≡ h.1 ∷ [] = sym (ap option_to_list g) ∙ (f ∙ ap model.kept (e ∙ p)) in
              let z : ◌≡◌ {A = ℕ} 0 1 = cc in
              omega arith

-- ---- end: an operation that has no node leaves its place, at the next turn
module _ (s : Side) (n : ℕ) (o : Open s n) (alone : Alone s n) (x : Op) (p : Places) (left : x ≡ blank_op (n / 64 + 1))
    (gone : live_of p.live ≡ set (live_of s.places.live) (n % 64) false) (over : live_of p.spent ≡ spent_by (live_of s.places.spent) (n % 64) (n / 64 + 1)) where
  abbrev now : List Op
  now = set s.ops (n % 64) x

  -- what it keeps
  kept_by : Sound s
  kept_by = sound_of s

  is : is_live (lookup (side_of s).ops n) ≡ true
  is = ap is_live o.1

  leaves_sound : SoundBy s.waiters now p
  unfolding side_of
  leaves_sound =
      record {
        used = closed_used turn_of (deed_by s.waiters) fresh_op 32 (omega arith) s.places.live s.places.spent s.ops kept_by.used n is x (ap turn_of left) p.live p.spent gone over;
        wiped = wiped_set (live_of s.places.live) (live_of p.live) s.ops (n % 64) x inside
            (λ k d. ap (λ (l : List Bool). get_or l k false) gone ∙ get_or-set_other (live_of s.places.live) (n % 64) k false false d)
            (λ _. left ∙ ap blank_op (sym (ap turn_of left))) kept_by.wiped;
        ties = subst (λ (t : List (Option Op)). Ties t s.waiters) (sym rows) (ties_set (table_of s) s.waiters (n % 64) None alone refl kept_by.ties);
      }
    where
      inside : n % 64 < length s.ops
      inside = omega (arith, is_small s n o, kept_by.used.sized)

      rows : table (live_of p.live) now ≡ set (table_of s) (n % 64) None
      rows =
          ap (λ (l : List Bool). table l (set s.ops (n % 64) x)) gone
          ∙ (held_close (live_of s.places.live) (set s.ops (n % 64) x) (n % 64)
          ∙ (ap (λ (t : List (Option Op)). set t (n % 64) None) (held_write (live_of s.places.live) s.ops (n % 64) x (is_live_lem s n o))
          ∙ set-set (table_of s) (n % 64) (Some x) None))

  -- nobody in line has the place, so the numbers there are as they were
  leaves_side : (k : ∥ SoundBy s.waiters now p ∥₁) → side_of (record s { places = p; ops = now; sound = k }) ≡ record { ops = clear (side_of s).ops n; line = (side_of s).line }
  unfolding side_of
  leaves_side k =
      ap₂ (λ (t : Table Deed) (l : List ℕ). record { ops = t; line = l })
      (closed_places turn_of (deed_by s.waiters) fresh_op 32 (omega arith) s.places.live s.places.spent s.ops kept_by.used n is x (ap turn_of left) p.live p.spent gone over)
      (lines_same s.ops (set s.ops (n % 64) x) s.waiters (λ k m. ap (λ (y : Op). op_of (held s.waiters k) + 64 * turn_of y) (get_or-set_other s.ops (n % 64) (op_of (held s.waiters k)) x fresh_op (apart k m))))
    where
      apart : (k : ℕ) → Memᴰ k (line s.waiters) → op_of (held s.waiters k) ≡ n % 64 → ⊥
      apart k m e = no_id k (sym alone ∙ (ap (node_at (table_of s)) (sym e) ∙ (line_place s k m).1))

module _ (s : Side) (n : ℕ) (o : Open s n) where
  abbrev EndedKept : ℕ → ℕ → Type 0
  EndedKept i k = (out : Side) (x : Op) (p : Places) → Detaches s n out → x ≡ blank_op (k + 1)
      → live_of p.live ≡ set (live_of out.places.live) i false → live_of p.spent ≡ spent_by (live_of out.places.spent) i (k + 1)
      → ∥ SoundBy out.waiters (set out.ops i x) p ∥₁

  abbrev Ended : ℕ → ℕ → Type 0
  Ended i k = (out : Side) (x : Op) (p : Places) → Detaches s n out → x ≡ blank_op (k + 1)
      → live_of p.live ≡ set (live_of out.places.live) i false → live_of p.spent ≡ spent_by (live_of out.places.spent) i (k + 1)
      → (kept : ∥ SoundBy out.waiters (set out.ops i x) p ∥₁) → Ends s n (record out { places = p; ops = set out.ops i x; sound = kept })

  ended_kept : EndedKept (n % 64) (n / 64)
  ended_kept out x p u left gone over = ∣ leaves_sound out n (open_detached s n o out u) u.alone x p left gone over ∣₁

  ended : Ended (n % 64) (n / 64)
  ended out x p u left gone over kept =
      record {
        sound = leaves_sound out n open' u.alone x p left gone over;
        side =
            leaves_side out n open' u.alone x p left gone over kept
            ∙ (ap (λ (q : model.Side Job). record { ops = clear q.ops n; line = q.line }) d.side
            ∙ ap (λ (t : Table Deed). record { ops = t; line = model.without n (side_of s).line }) (set-set (side_of s).ops (n % 64) (holds (n / 64) (model.re_stage (λ old. d.stage) o.0)) (vacant (suc (n / 64)))));
      }
    where
      d : Detached s n o.0 out
      d = u.side o.0 o.1

      open' : Open out n
      open' = open_detached s n o out u

  pub end_kept : (i k : ℕ) → i ≡ n % 64 → k ≡ n / 64 → EndedKept i k
  end_kept i k at turned = subst (λ (j : ℕ). EndedKept j k) (sym at) (subst (EndedKept (n % 64)) (sym turned) ended_kept)

  pub end_done : (i k : ℕ) → i ≡ n % 64 → k ≡ n / 64 → Ended i k
  end_done i k at turned = subst (λ (j : ℕ). Ended j k) (sym at) (subst (Ended (n % 64)) (sym turned) ended)
