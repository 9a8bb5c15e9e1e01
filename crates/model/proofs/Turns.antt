-- A NUMBER THAT WAS CLOSED IS NEVER LIVE AGAIN: no call turns a place back. And those given are the live and the closed ones: each call adds
-- what it answers with 2, and none else adds or forgets any. Assumes nothing.
use Rattle.std.specs.Prelude.{if◌then◌else◌}
use mathlib.Core.Path.{◌≡◌, refl, sym, ap, ◌∙◌}
use mathlib.Core.Bool.{Bool, true, false, not, ◌&&◌, ◌||◌}
use mathlib.Core.List.{List, [], ◌∷◌, ◌++◌}
use Rattle.std.specs.Prelude.{Option, None, Some}
use Prim.Native.Nat.{ℕ, zero, suc, ◌+◌, ◌/◌, ◌%◌, ◌<◌, ◌≤◌, max}
use native.Mathlib.Omega.{arith}
use native.Mathlib.Decide.{ℕ_discrete}
use lib.Dec.{eqb, ltb, leb}
use lib.ListN.{length, get_or, set}
use lib.Seq.{get_or-set_same, get_or-set_other}
use borrow.Author.Tests.{ltb-true, lt-ltb, le-ltb, eq-eqb, ne_eqb}
use Rattle.model.specs.Table.{Place, vacant, holds, turn, in_place, LAST_TURN, Table, blank, place_of, lookup, was_closed, put, clear, change_in, change, each, lowest, of, size}
use Rattle.model.specs.Side.{Side, idle, called, Op, waits, is_called, kept, opened, ended, pended, call_head, call_first, closed_line}
use Rattle.model.specs.Queue.{Queue, Job, bare, carrying, Mark, Room, slots, unbounded, Result, Moved, fresh, nothing, reply, refuse, need, give, no_sender, no_receiver, no_free, is_unbounded, ring_full, sender_busy, receiver_busy, DONE, NO_HANDLE, CLOSED}
use Rattle.model.specs.Queue.{set_values, set_senders, set_receivers, set_outs, set_ins, set_permits, acquire, release, release_to, notify, push, done_by, complete, take_first}
use Rattle.model.specs.Calls.{Call, CloneS, CloneR, TrySend, TryRes, Reserve, Send, Recv, PollOut, CancelOut, PermitSend, PermitDrop, TryRecv, PollIn, CancelIn, DropS, DropR, Status}
use Rattle.model.specs.Calls.{clone_s, clone_r, try_send, try_res, open_out, open_in, poll_out, cancel_out, permit_send, permit_drop, try_recv, poll_in, cancel_in, drop_s, drop_r, status, step, answers, after, among, make, make_u, Begin, by_make, by_make_u, begin}
use Rattle.model.specs.Turns.{Kind, sender, receiver, outgoing, incoming, permit, Handle, found, live_as, is_live, ClosedForGood, NumbersFit, ShortOfPermits}
use Rattle.model.specs.Given.{gives, is_kind, gave, gave_first, given_by, given, SaysWhichDead}
use Rattle.model.proofs.TableLaws.{if_cases, together, has_live, has_lowest, lowest_free, lowest_turn, here, on_turn_lem, off_turn}
use Rattle.model.proofs.Cases.{need_cases, give_cases}
use Rattle.model.proofs.Kept.{Inv}
use Rattle.model.proofs.Steps.{step_fine}
use Rattle.model.proofs.Answers.{of_dead, closed_as, not_live, still_live}
use Rattle.model.proofs.Leaves.{try_res_given, poll_out_gone, poll_out_granted, poll_out_room, poll_out_pending, give_permit_short}

-- ---- TESTS
or_false : (b : Bool) → (b || false) ≡ b
or_false true = refl
or_false false = refl

or_true : (b : Bool) → (b || true) ≡ true
or_true true = refl
or_true false = refl

or_assoc : (a b c : Bool) → ((a || b) || c) ≡ (a || (b || c))
or_assoc true b c = refl
or_assoc false b c = refl

same_truth : (a b : Bool) → (a ≡ true → b ≡ true) → (b ≡ true → a ≡ true) → a ≡ b
same_truth true b f g = sym (f refl)
same_truth false true f g = g refl
same_truth false false f g = refl

among_append : (n : ℕ) (g h : List ℕ) → among n (g ++ h) ≡ (among n g || among n h)
among_append n [] h = refl
among_append n (x ∷ g) h = ap (λ (b : Bool). eqb n x || b) (among_append n g h) ∙ sym (or_assoc (eqb n x) (among n g) (among n h))

-- ---- A TABLE
module _ {A : Type 0} where
  -- how often a place was used, now included
  abbrev uses : Place A → ℕ
  uses x = turn x + of (λ a. 1) (in_place x)

  -- was a number given: its turn is in use, or over
  abbrev used : Table A → ℕ → Bool
  used t n = ltb (n / 64) (uses (place_of t n))

  -- A place goes on to another: its turn does not fall, and no use of it begins after its last turn.
  pub record Onto (x y : Place A) : Type 0 where
    turned : turn x ≤ turn y
    last : uses y ≤ max (uses x) (LAST_TURN + 1)

  -- A table goes on to another, and gives the numbers g: each place goes on, and those that were given are then just g more.
  pub record Onward (g : List ℕ) (t u : Table A) : Type 0 where
    place : (i : ℕ) → Onto (get_or t i (vacant 0)) (get_or u i (vacant 0))
    numbers : (n : ℕ) → used u n ≡ (used t n || among n g)

  still : (x : Place A) → Onto x x
  still x = record { turned = omega arith; last = omega arith }

  stay : (t : Table A) → Onward [] t t
  stay t = record { place = λ i. still (get_or t i (vacant 0)); numbers = λ n. sym (or_false (used t n)) }

  and_on : {g h : List ℕ} {t u v : Table A} → Onward g t u → Onward h u v → Onward (g ++ h) t v
  and_on {g} {h} {t} {u} {v} a b =
      record {
        place = λ i. let x = a.place i in let y = b.place i in record { turned = omega arith; last = omega arith };
        numbers = λ n. b.numbers n ∙ ap (λ (z : Bool). z || among n h) (a.numbers n) ∙ or_assoc (used t n) (among n g) (among n h)
            ∙ ap (λ (z : Bool). used t n || z) (sym (among_append n g h));
      }

  uses_le : (x : Place A) → uses x ≤ turn x + 1
  uses_le (vacant k) = omega arith
  uses_le (holds k a) = omega arith

  -- one place is set
  on_set : (g : List ℕ) (t : Table A) (n : ℕ) (s : Place A) → n % 64 < length t → Onto (place_of t n) s
      → ((m : ℕ) → m % 64 ≡ n % 64 → ltb (m / 64) (uses s) ≡ (ltb (m / 64) (uses (place_of t n)) || among m g))
      → ((m : ℕ) → (m % 64 ≡ n % 64 → ⊥) → among m g ≡ false) → Onward g t (set t (n % 64) s)
  on_set g t n s l o here apart = record { place = λ i. by i (ℕ_discrete i (n % 64)); numbers = λ m. counted m (ℕ_discrete (m % 64) (n % 64)) }
    where
      by : (i : ℕ) → Dec (i ≡ n % 64) → Onto (get_or t i (vacant 0)) (get_or (set t (n % 64) s) i (vacant 0))
      by i (yes e) = rw (e, get_or-set_same t (n % 64) s (vacant 0) l) o
      by i (no d) = rw (get_or-set_other t (n % 64) i s (vacant 0) d) (still (get_or t i (vacant 0)))

      counted : (m : ℕ) → Dec (m % 64 ≡ n % 64) → used (set t (n % 64) s) m ≡ (used t m || among m g)
      counted m (yes e) = rw (e, get_or-set_same t (n % 64) s (vacant 0) l) (here m e)
      counted m (no d) = rw (get_or-set_other t (n % 64) (m % 64) s (vacant 0) d, apart m d) (sym (or_false (used t m)))

  -- and used as often as before: no number is given
  on_same : (t : Table A) (n : ℕ) (s : Place A) → n % 64 < length t → turn (place_of t n) ≤ turn s → uses s ≡ uses (place_of t n) → Onward [] t (set t (n % 64) s)
  on_same t n s l o e =
      on_set [] t n s l (record { turned = o; last = omega arith })
      (λ m h. ap (ltb (m / 64)) e ∙ sym (or_false (ltb (m / 64) (uses (place_of t n))))) (λ m d. refl)

  -- a record comes, at a turn that is left: its number is given
  on_give : (t : Table A) (n : ℕ) (a : A) → size t ≤ 64 → lowest t ≡ Some n → Onward (n ∷ []) t (put t n a)
  on_give t n a b e =
      let h = has_lowest t n b e in
      let turn-of-n = h.on_turn in
      let left = lowest_turn t n b e in
      let fresh : uses (place_of t n) ≡ n / 64 = omega (arith, ap (of (λ x. 1)) (sym (here t n h) ∙ lowest_free t n b e)) in
      on_set (n ∷ []) t n (holds (n / 64) a) h.inside (record { turned = omega arith; last = omega arith })
      (λ m p. rw fresh (next_turn m n p))
      (λ m d. rw (ne_eqb m n (λ z. d (ap (λ (x : ℕ). x % 64) z))))
    where
      next_turn : (m n : ℕ) → m % 64 ≡ n % 64 → ltb (m / 64) (n / 64 + 1) ≡ (ltb (m / 64) (n / 64) || (eqb m n || false))
      next_turn m n p = by (ℕ_discrete m n)
        where
          by : Dec (m ≡ n) → ltb (m / 64) (n / 64 + 1) ≡ (ltb (m / 64) (n / 64) || (eqb m n || false))
          by (yes z) = lt-ltb (m / 64) (n / 64 + 1) (omega arith) ∙ sym (ap (λ (x : Bool). ltb (m / 64) (n / 64) || (x || false)) (eq-eqb m n z) ∙ or_true (ltb (m / 64) (n / 64)))
          by (no d) =
              let other : m / 64 ≡ n / 64 → ⊥ = λ k. d (together m n p k) in
              same_truth (ltb (m / 64) (n / 64 + 1)) (ltb (m / 64) (n / 64)) (λ h. lt-ltb (m / 64) (n / 64) (let k = ltb-true (m / 64) (n / 64 + 1) h in omega arith))
              (λ h. lt-ltb (m / 64) (n / 64 + 1) (let k = ltb-true (m / 64) (n / 64) h in omega arith))
              ∙ sym (ap (λ (x : Bool). ltb (m / 64) (n / 64) || (x || false)) (ne_eqb m n d) ∙ or_false (ltb (m / 64) (n / 64)))

  -- a live number's place, now used
  live_uses : (t : Table A) (n : ℕ) (a : A) → lookup t n ≡ Some a → uses (place_of t n) ≡ n / 64 + 1
  live_uses t n a e = let h = has_live t n a e in omega (arith, h.on_turn, ap (of (λ x. 1)) (sym (here t n h) ∙ e))

  -- a record that is live goes; one that is live, and all of them, are changed
  on_clear : (t : Table A) (n : ℕ) (a : A) → lookup t n ≡ Some a → Onward [] t (clear t n)
  on_clear t n a e =
      let h = has_live t n a e in
      let u = live_uses t n a e in
      on_same t n (vacant (suc (n / 64))) h.inside (omega (arith, h.on_turn)) (omega arith)

  on_change : (t : Table A) (n : ℕ) (f : A → A) → Onward [] t (change t n f)
  on_change t n f = by (lookup t n) refl
    where
      by : (o : Option A) → lookup t n ≡ o → Onward [] t (change_in t n f o)
      by None e = stay t
      by (Some a) e =
          let h = has_live t n a e in
          let u = live_uses t n a e in
          on_same t n (holds (n / 64) (f a)) h.inside (omega (arith, h.on_turn)) (omega arith)

  on_each : (f : A → A) (t : Table A) → Onward [] t (each f t)
  on_each f t = record { place = λ i. one (at t i); numbers = λ n. ap (ltb (n / 64)) (at t (n % 64)).1 ∙ sym (or_false (used t n)) }
    where
      Alike : Place A → Place A → Type 0
      Alike x y = (turn y ≡ turn x) × (uses y ≡ uses x)

      at : (t : Table A) (i : ℕ) → Alike (get_or t i (vacant 0)) (get_or (each f t) i (vacant 0))
      at [] i = (refl, refl)
      at (vacant k ∷ t) zero = (refl, refl)
      at (holds k a ∷ t) zero = (refl, refl)
      at (x ∷ t) (suc i) = at t i

      one : {x y : Place A} → Alike x y → Onto x y
      one a = record { turned = omega (arith, a.0); last = omega (arith, a.1) }

  -- a number that was given is live, or closed; never both
  pub used_is : (t : Table A) (n : ℕ) → used t n ≡ (found (lookup t n) || was_closed t n)
  used_is t n = by (lookup t n) refl
    where
      vacant_uses : (x : Place A) → in_place x ≡ None → uses x ≡ turn x
      vacant_uses x e = omega (arith, ap (of (λ a. 1)) e)

      none_in_use : lookup t n ≡ None → n / 64 < uses (place_of t n) → Dec (n / 64 ≡ turn (place_of t n)) → n / 64 < turn (place_of t n)
      none_in_use e u (yes k) = absurd (omega (arith, vacant_uses (place_of t n) (sym (on_turn_lem (n / 64) (place_of t n) k) ∙ e)))
      none_in_use e u (no d) = omega (arith, uses_le (place_of t n))

      by : (o : Option A) → lookup t n ≡ o → used t n ≡ (found o || was_closed t n)
      by (Some a) e = lt-ltb (n / 64) (uses (place_of t n)) (omega (arith, live_uses t n a e))
      by None e =
          same_truth (used t n) (was_closed t n)
          (λ h. lt-ltb (n / 64) (turn (place_of t n)) (none_in_use e (ltb-true (n / 64) (uses (place_of t n)) h) (ℕ_discrete (n / 64) (turn (place_of t n)))))
          (λ h. lt-ltb (n / 64) (uses (place_of t n)) (let k = ltb-true (n / 64) (turn (place_of t n)) h in omega arith))

  closed_dead : (t : Table A) (n : ℕ) → was_closed t n ≡ true → found (lookup t n) ≡ false
  closed_dead t n c = ap found (off_turn (n / 64) (place_of t n) (λ e. let h = ltb-true (n / 64) (turn (place_of t n)) c in omega arith))

  -- a number that is live is closed once it is not, and from then on
  closes : {g : List ℕ} (t u : Table A) (n : ℕ) → Onward g t u → found (lookup t n) ≡ true → found (lookup u n) ≡ false → was_closed u n ≡ true
  closes {g} t u n a l d =
      sym (used_is u n ∙ ap (λ (b : Bool). b || was_closed u n) d) ∙ a.numbers n
      ∙ ap (λ (b : Bool). b || among n g) (used_is t n ∙ ap (λ (b : Bool). b || was_closed t n) l)

  stays_closed : {g : List ℕ} (t u : Table A) (n : ℕ) → Onward g t u → was_closed t n ≡ true → was_closed u n ≡ true
  stays_closed t u n a c =
      let x = a.place (n % 64) in
      lt-ltb (n / 64) (turn (place_of u n)) (let h = ltb-true (n / 64) (turn (place_of t n)) c in omega arith)

  -- a table that began with no place used: which numbers were given, and that those are not too large
  unused : (p i : ℕ) → ◌≡◌ {A = Place A} (get_or (blank p) i (vacant 0)) (vacant 0)
  unused zero i = refl
  unused (suc p) zero = refl
  unused (suc p) (suc i) = unused p i

  all_given : {g : List ℕ} (p : ℕ) (t : Table A) (n : ℕ) → Onward g (blank p) t → (found (lookup t n) || was_closed t n) ≡ among n g
  all_given {g} p t n o =
      sym (used_is t n) ∙ o.numbers n
      ∙ ap (λ (b : Bool). b || among n g) (ap (λ (x : Place A). ltb (n / 64) (uses x)) (unused p (n % 64)) ∙ le-ltb (n / 64) 0 (omega arith))

  fits : {g : List ℕ} (p : ℕ) (t : Table A) (n : ℕ) → Onward g (blank p) t → found (lookup t n) ≡ true → n ≤ 4294967295
  fits p t n o l =
      let x = o.place (n % 64) in
      let u = ltb-true (n / 64) (uses (place_of t n)) (used_is t n ∙ ap (λ (b : Bool). b || was_closed t n) l) in
      omega (arith, ap uses (unused p (n % 64)))

-- ---- A QUEUE goes on to another, and gives numbers s, r, o, i and p: each of its tables does
pub record Tables (s r o i p : List ℕ) (S R : Table Mark) (O I : Side Job) (P : Table ℕ) (S' R' : Table Mark) (O' I' : Side Job) (P' : Table ℕ) : Type 0 where
  senders : Onward s S S'
  receivers : Onward r R R'
  outs : Onward o O.ops O'.ops
  ins : Onward i I.ops I'.ops
  permits : Onward p P P'

-- g are the numbers of each kind
abbrev pub Forward : (Kind → List ℕ) → Queue → Queue → Type 0
Forward g q r =
    Tables (g sender) (g receiver) (g outgoing) (g incoming) (g permit) q.senders q.receivers q.outs q.ins q.permits r.senders r.receivers r.outs r.ins r.permits

-- no number is given; numbers of one kind are
abbrev Silent : Queue → Queue → Type 0
Silent q r = Forward (λ k. []) q r

abbrev only : Kind → List ℕ → Kind → List ℕ
only j g k = if is_kind k (Some j) then g else []

unmoved : (q : Queue) → Silent q q
unmoved q = record { senders = stay q.senders; receivers = stay q.receivers; outs = stay q.outs.ops; ins = stay q.ins.ops; permits = stay q.permits }

and_next : {s r o i p s' r' o' i' p' : List ℕ} {S S' S'' R R' R'' : Table Mark} {O O' O'' I I' I'' : Side Job} {P P' P'' : Table ℕ}
    → Tables s r o i p S R O I P S' R' O' I' P' → Tables s' r' o' i' p' S' R' O' I' P' S'' R'' O'' I'' P''
    → Tables (s ++ s') (r ++ r') (o ++ o') (i ++ i') (p ++ p') S R O I P S'' R'' O'' I'' P''
and_next a b =
    record {
      senders = and_on a.senders b.senders;
      receivers = and_on a.receivers b.receivers;
      outs = and_on a.outs b.outs;
      ins = and_on a.ins b.ins;
      permits = and_on a.permits b.permits;
    }

-- one table goes on
module _ (q : Queue) (g : List ℕ) where
  by_senders : (t : Table Mark) → Onward g q.senders t → Forward (only sender g) q (set_senders t q)
  by_senders t o = record { senders = o; receivers = stay q.receivers; outs = stay q.outs.ops; ins = stay q.ins.ops; permits = stay q.permits }

  by_receivers : (t : Table Mark) → Onward g q.receivers t → Forward (only receiver g) q (set_receivers t q)
  by_receivers t o = record { senders = stay q.senders; receivers = o; outs = stay q.outs.ops; ins = stay q.ins.ops; permits = stay q.permits }

  by_outs : (s : Side Job) → Onward g q.outs.ops s.ops → Forward (only outgoing g) q (set_outs s q)
  by_outs s o = record { senders = stay q.senders; receivers = stay q.receivers; outs = o; ins = stay q.ins.ops; permits = stay q.permits }

  by_ins : (s : Side Job) → Onward g q.ins.ops s.ops → Forward (only incoming g) q (set_ins s q)
  by_ins s o = record { senders = stay q.senders; receivers = stay q.receivers; outs = stay q.outs.ops; ins = o; permits = stay q.permits }

  by_permits : (t : Table ℕ) → Onward g q.permits t → Forward (only permit g) q (set_permits t q)
  by_permits t o = record { senders = stay q.senders; receivers = stay q.receivers; outs = stay q.outs.ops; ins = stay q.ins.ops; permits = o }

-- THE MOVES
on_call : (s : Side Job) → Onward [] s.ops (call_first s).ops
on_call s = by s.line
  where
    by : (l : List ℕ) → Onward [] s.ops (call_head l s).ops
    by [] = stay s.ops
    by (n ∷ l) = on_change s.ops n _

released : (q : Queue) → Silent q (release q).next
released q = if_cases (λ (mv : Moved). Silent q mv.next) (no_receiver q) _ _ (λ e. unmoved q) (λ e. by q.outs.line)
  where
    by : (l : List ℕ) → Silent q (release_to l q).next
    by [] = unmoved q
    by (n ∷ l) = by_outs q [] (call_first q.outs) (on_call q.outs)

told : (q : Queue) → Silent q (notify q).next
told q = by_ins q [] (call_first q.ins) (on_call q.ins)

-- ---- EVERY CALL, on a queue that keeps the invariant: its tables have at most 64 places. The numbers given are those that it answers.
abbrev Goes : Option Kind → Queue → Result → Type 0
Goes j q r = Forward (λ k. gave k j r.ans) q r.next

module _ (j : Option Kind) where
  go_need : {A : Type 0} (t : Table A) (n : ℕ) (q : Queue) (go : A → Result) → ((a : A) → lookup t n ≡ Some a → Goes j q (go a)) → Goes j q (need t n q go)
  go_need t n q go h = need_cases (Goes j q) t n q go (λ e. unmoved q) (λ e. unmoved q) h

  go_give : {A : Type 0} (t : Table A) (q : Queue) (go : ℕ → Result) → size t ≤ 64 → ((n : ℕ) → ((a : A) → Onward (n ∷ []) t (put t n a)) → Goes j q (go n)) → Goes j q (give t q go)
  go_give t q go b h = give_cases (Goes j q) t q go (unmoved q) (λ n e. h n (λ a. on_give t n a b e))

  go_if : (q : Queue) (b : Bool) (x y : Result) → Goes j q x → Goes j q y → Goes j q (if b then x else y)
  go_if q b x y h k = if_cases (Goes j q) b x y (λ e. h) (λ e. k)

  go_push : (v : ℕ) (q x : Queue) → Silent q x → Goes j q (done_by (push v x))
  go_push v q x f = and_next f (told (set_values (x.values ++ (v ∷ [])) x))

  go_take : (vs r : List ℕ) (e : Result) (q x : Queue) → Silent q x → Goes j q e → Goes j q (take_first vs r e x)
  go_take [] r e q x f h = go_if q (no_sender x) _ _ f h
  go_take (v ∷ vs) r e q x f h = and_next f (released (set_values vs x))

go_complete : (j : Job) (s : ℕ) (q x : Queue) → size q.permits ≤ 64 → Silent q x → Goes (Some permit) q (complete j s q x)
go_complete bare s q x b f = go_give (Some permit) q.permits q _ b λ n comes.
    record { senders = f.senders; receivers = f.receivers; outs = f.outs; ins = f.ins; permits = comes s }
go_complete (carrying v) s q x b f = go_push (Some permit) v q x f

-- a record goes
module _ (q : Queue) (n : ℕ) where
  sender_ends : (a : Mark) → lookup q.senders n ≡ Some a → Silent q (set_senders (clear q.senders n) q)
  sender_ends a e = by_senders q [] (clear q.senders n) (on_clear q.senders n a e)

  receiver_ends : (a : Mark) → lookup q.receivers n ≡ Some a → Silent q (set_receivers (clear q.receivers n) q)
  receiver_ends a e = by_receivers q [] (clear q.receivers n) (on_clear q.receivers n a e)

  out_ends : (op : Op Job) → lookup q.outs.ops n ≡ Some op → Silent q (set_outs (ended n q.outs) q)
  out_ends op e = by_outs q [] (ended n q.outs) (on_clear q.outs.ops n op e)

  in_ends : (op : Op Job) → lookup q.ins.ops n ≡ Some op → Silent q (set_ins (ended n q.ins) q)
  in_ends op e = by_ins q [] (ended n q.ins) (on_clear q.ins.ops n op e)

  permit_ends : (s : ℕ) → lookup q.permits n ≡ Some s → Silent q (set_permits (clear q.permits n) q)
  permit_ends s e = by_permits q [] (clear q.permits n) (on_clear q.permits n s e)

opening : (j : Job) (s : ℕ) (q : Queue) → Inv 0 0 q → Goes (Some outgoing) q (open_out j s q)
unfolding open_out
opening j s q i = go_need (Some outgoing) q.senders s q _ λ a e. go_if (Some outgoing) q (is_unbounded q) _ _ (unmoved q) (go_give (Some outgoing) q.outs.ops q _ (omega (arith, i.outs.wide)) λ n comes.
    by_outs q (n ∷ []) (opened n s j q.outs) (comes _))

step_goes : (c : Call) (q : Queue) → Inv 0 0 q → Goes (gives c) q (step c q)
unfolding step clone_s clone_r try_send try_res open_out open_in poll_out cancel_out permit_send permit_drop try_recv poll_in cancel_in drop_s drop_r status
step_goes (CloneS s) q i = go_need (Some sender) q.senders s q _ λ a e. go_give (Some sender) q.senders q _ (omega (arith, i.sizes.senders)) λ n comes.
    by_senders q (n ∷ []) (put q.senders n tt) (comes tt)
step_goes (CloneR r) q i = go_need (Some receiver) q.receivers r q _ λ a e. go_give (Some receiver) q.receivers q _ (omega (arith, i.sizes.receivers)) λ n comes.
    by_receivers q (n ∷ []) (put q.receivers n tt) (comes tt)
step_goes (TrySend s v) q i = go_need None q.senders s q _ λ a e. go_if None q (no_receiver q) _ _ (unmoved q) (go_if None q (no_free q) _ _ (unmoved q)
    (go_if None q (ring_full q) _ _ (unmoved q) (go_push None v q (acquire q) (unmoved q))))
step_goes (TryRes s) q i = go_need (Some permit) q.senders s q _ λ a e. go_if (Some permit) q (is_unbounded q) _ _ (unmoved q) (go_if (Some permit) q (no_receiver q) _ _ (unmoved q)
    (go_if (Some permit) q (no_free q) _ _ (unmoved q) (go_complete bare s q (acquire q) (omega (arith, i.sizes.permits)) (unmoved q))))
step_goes (Reserve s) q i = opening bare s q i
step_goes (Send s v) q i = opening (carrying v) s q i
step_goes (Recv r) q i = go_need (Some incoming) q.receivers r q _ λ a e. go_give (Some incoming) q.ins.ops q _ (omega (arith, i.ins.wide)) λ n comes.
    by_ins q (n ∷ []) (opened n r bare q.ins) (comes _)
step_goes (PollOut n t) q i = go_need (Some permit) q.outs.ops n q _ λ op e.
    go_if (Some permit) q (no_receiver q) _ _ (out_ends q n op e)
    (go_if (Some permit) q (eqb (is_called op.stage) 1) _ _ (go_complete op.job op.owner q (set_outs (ended n q.outs) q) (omega (arith, i.sizes.permits)) (out_ends q n op e))
    (go_if (Some permit) q (eqb (waits op.stage) 0 && not (no_free q)) _ _ (go_complete op.job op.owner q (acquire (set_outs (ended n q.outs) q)) (omega (arith, i.sizes.permits)) (out_ends q n op e))
    (by_outs q [] (pended op.stage n t q.outs) (on_change q.outs.ops n _))))
step_goes (CancelOut n) q i = go_need None q.outs.ops n q _ λ op e.
    go_if None q (eqb (is_called op.stage) 1) _ _ (and_next (out_ends q n op e) (released (set_outs (ended n q.outs) q))) (out_ends q n op e)
step_goes (PermitSend p v) q i = go_need None q.permits p q _ λ s e.
    go_if None q (no_receiver q) _ _ (permit_ends q p s e)
    (go_push None v q (set_permits (clear q.permits p) q) (permit_ends q p s e))
step_goes (PermitDrop p) q i = go_need None q.permits p q _ λ s e. and_next (permit_ends q p s e) (released (set_permits (clear q.permits p) q))
step_goes (TryRecv r) q i = go_need None q.receivers r q _ λ a e. go_take None q.values [] _ q q (unmoved q) (unmoved q)
step_goes (PollIn n t) q i = go_need None q.ins.ops n q _ λ op e.
    go_take None q.values (kept op.stage) _ q (set_ins (ended n q.ins) q) (in_ends q n op e) (by_ins q [] (pended op.stage n t q.ins) (on_change q.ins.ops n _))
step_goes (CancelIn n) q i = go_need None q.ins.ops n q _ λ op e.
    go_if None q (eqb (is_called op.stage) 1 && (not (no_sender q) && ltb 0 (length q.values))) _ _
    (and_next (in_ends q n op e) (told (set_ins (ended n q.ins) q))) (in_ends q n op e)
step_goes (DropS s) q i = go_need None q.senders s q _ λ a e.
    go_if None q (sender_busy s q) _ _ (unmoved q) (go_if None q (no_sender (set_senders (clear q.senders s) q)) _ _
    (and_next (sender_ends q s a e) (by_ins (set_senders (clear q.senders s) q) [] (closed_line q.ins) (on_each _ q.ins.ops))) (sender_ends q s a e))
step_goes (DropR r) q i = go_need None q.receivers r q _ λ a e.
    go_if None q (receiver_busy r q) _ _ (unmoved q) (go_if None q (no_receiver (set_receivers (clear q.receivers r) q)) _ _
    (and_next (receiver_ends q r a e) (by_outs (set_receivers (clear q.receivers r) q) [] (closed_line q.outs) (on_each _ q.outs.ops))) (receiver_ends q r a e))
step_goes Status q i = unmoved q

-- a history begins with no place used before, and make gives a sender and a receiver
first : (c : ℕ) (f : Room) → Forward (λ k. gave_first k (reply DONE [] [] [] nothing).ans) nothing (fresh c f)
first c f =
    record {
      senders = on_give (blank 16) 0 tt (omega arith) refl;
      receivers = on_give (blank 16) 0 tt (omega arith) refl;
      outs = stay (blank 32);
      ins = stay (blank 32);
      permits = stay (blank 64);
    }

begin_goes : (b : Begin) → Forward (λ k. gave_first k (begin b).ans) nothing (begin b).next
unfolding make make_u
begin_goes (by_make c) =
    if_cases (λ (r : Result). Forward (λ k. gave_first k r.ans) nothing r.next) (leb 1 c && leb c 64) _ _ (λ e. first c (slots c)) (λ e. unmoved nothing)
begin_goes by_make_u = first 64 unbounded

pub after_goes : (cs : List Call) (q : Queue) → Inv 0 0 q → Forward (λ k. given_by k cs (answers cs q)) q (after cs q)
unfolding after answers
after_goes [] q i = unmoved q
after_goes (c ∷ cs) q i = and_next (step_goes c q i) (after_goes cs (step c q).next (step_fine c q i).kept)

-- a whole history
pub all_goes : (b : Begin) (cs : List Call) → Inv 0 0 (begin b).next → Forward (λ k. given k b cs) nothing (after cs (begin b).next)
all_goes b cs i = and_next (begin_goes b) (after_goes cs (begin b).next i)

-- ---- A HANDLE
module _ (g : Kind → List ℕ) where
  closes_as : (k : Kind) (n : ℕ) (q r : Queue) → Forward g q r → live_as k n q ≡ true → live_as k n r ≡ false → closed_as k n r ≡ true
  closes_as sender n q r a = closes q.senders r.senders n a.senders
  closes_as receiver n q r a = closes q.receivers r.receivers n a.receivers
  closes_as outgoing n q r a = closes q.outs.ops r.outs.ops n a.outs
  closes_as incoming n q r a = closes q.ins.ops r.ins.ops n a.ins
  closes_as permit n q r a = closes q.permits r.permits n a.permits

  stays_closed_as : (k : Kind) (n : ℕ) (q r : Queue) → Forward g q r → closed_as k n q ≡ true → closed_as k n r ≡ true
  stays_closed_as sender n q r a = stays_closed q.senders r.senders n a.senders
  stays_closed_as receiver n q r a = stays_closed q.receivers r.receivers n a.receivers
  stays_closed_as outgoing n q r a = stays_closed q.outs.ops r.outs.ops n a.outs
  stays_closed_as incoming n q r a = stays_closed q.ins.ops r.ins.ops n a.ins
  stays_closed_as permit n q r a = stays_closed q.permits r.permits n a.permits

  fits_as : (k : Kind) (n : ℕ) (q : Queue) → Forward g nothing q → live_as k n q ≡ true → n ≤ 4294967295
  fits_as sender n q a = fits 16 q.senders n a.senders
  fits_as receiver n q a = fits 16 q.receivers n a.receivers
  fits_as outgoing n q a = fits 32 q.outs.ops n a.outs
  fits_as incoming n q a = fits 32 q.ins.ops n a.ins
  fits_as permit n q a = fits 64 q.permits n a.permits

  all_given_as : (k : Kind) (n : ℕ) (q : Queue) → Forward g nothing q → (live_as k n q || closed_as k n q) ≡ among n (g k)
  all_given_as sender n q a = all_given 16 q.senders n a.senders
  all_given_as receiver n q a = all_given 16 q.receivers n a.receivers
  all_given_as outgoing n q a = all_given 32 q.outs.ops n a.outs
  all_given_as incoming n q a = all_given 32 q.ins.ops n a.ins
  all_given_as permit n q a = all_given 64 q.permits n a.permits

closed_dead_as : (k : Kind) (n : ℕ) (q : Queue) → closed_as k n q ≡ true → live_as k n q ≡ false
closed_dead_as sender n q = closed_dead q.senders n
closed_dead_as receiver n q = closed_dead q.receivers n
closed_dead_as outgoing n q = closed_dead q.outs.ops n
closed_dead_as incoming n q = closed_dead q.ins.ops n
closed_dead_as permit n q = closed_dead q.permits n

pub numbers_fit : (b : Begin) (cs : List Call) → Inv 0 0 (begin b).next → NumbersFit (after cs (begin b).next)
numbers_fit b cs i x l = fits_as (λ k. given k b cs) x.kind x.number (after cs (begin b).next) (all_goes b cs i) l

-- q has gone on to r, where x is no longer live
pub closed_for_good : (g : Kind → List ℕ) (x : Handle) (q r : Queue) → Forward g q r → Inv 0 0 r → is_live x q ≡ true → is_live x r ≡ false → ClosedForGood x r
closed_for_good g x q r goes i l d =
    record {
      never_live = dead;
      changes_nothing = λ cs c e.
          not_live c x (after cs r) e (dead cs) ∙ ap (λ (b : Bool). refuse (if b then CLOSED else NO_HANDLE) (after cs r)) (over cs);
    }
  where
    over : (cs : List Call) → closed_as x.kind x.number (after cs r) ≡ true
    over cs = stays_closed_as (λ k. given_by k cs (answers cs r)) x.kind x.number r (after cs r) (after_goes cs r i) (closes_as g x.kind x.number q r goes l d)

    dead : (cs : List Call) → is_live x (after cs r) ≡ false
    dead cs = closed_dead_as x.kind x.number (after cs r) (over cs)

-- ---- WHICH KIND OF DEAD
-- a code, by whether the number is live and whether it is closed
by_code : (code : ℕ) (l z : Bool) → (l ≡ true → of_dead code ≡ false) → (l ≡ false → code ≡ (if z then CLOSED else NO_HANDLE))
    → (eqb code CLOSED ≡ ((l || z) && not l)) × (eqb code NO_HANDLE ≡ not (l || z))
by_code code true z a d = let h = a refl in ((or_none (eqb code 21) (eqb code 26) h).1, (or_none (eqb code 21) (eqb code 26) h).0)
  where
    or_none : (a b : Bool) → (a || (b || false)) ≡ false → (a ≡ false) × (b ≡ false)
    or_none false false e = (refl, refl)
    or_none true b e = let z : ◌≡◌ {A = ℕ} 0 1 = cc in absurd (omega arith)
    or_none false true e = let z : ◌≡◌ {A = ℕ} 0 1 = cc in absurd (omega arith)
by_code code false true a d = (ap (λ (c : ℕ). eqb c 26) (d refl), ap (λ (c : ℕ). eqb c 21) (d refl))
by_code code false false a d = (ap (λ (c : ℕ). eqb c 26) (d refl), ap (λ (c : ℕ). eqb c 21) (d refl))

pub dead_said : (b : Begin) (cs : List Call) → Inv 0 0 (begin b).next → SaysWhichDead b cs
dead_said b cs i c x e =
    let q = after cs (begin b).next in
    let all = all_given_as (λ k. given k b cs) x.kind x.number q (all_goes b cs i) in
    let says = by_code (step c q).ans.code (is_live x q) (closed_as x.kind x.number q) (still_live c x q e) (λ d. ap (λ (r : Result). r.ans.code) (not_live c x q e d)) in
    record {
      closed = says.0 ∙ ap (λ (g : Bool). g && not (is_live x q)) all;
      never_given = says.1 ∙ ap not all;
    }

-- ---- NO NUMBER LEFT FOR A PERMIT, on any queue
-- a send's poll-out, by its ways
not_a_send : (n t : ℕ) (q : Queue) (op : Op Job) (v : ℕ) → op.job ≡ carrying v → lookup q.outs.ops n ≡ Some op → (poll_out n t q).ans.code ≡ 23 → ⊥
not_a_send n t q op v j e = by (no_receiver q) (eqb (is_called op.stage) 1) (eqb (waits op.stage) 0 && not (no_free q)) refl refl refl
  where
    ends : (x : Queue) → (complete op.job op.owner q x).ans.code ≡ 0
    ends x = ap (λ (k : Job). (complete k op.owner q x).ans.code) j

    by : (r g f : Bool) → no_receiver q ≡ r → eqb (is_called op.stage) 1 ≡ g → (eqb (waits op.stage) 0 && not (no_free q)) ≡ f → (poll_out n t q).ans.code ≡ 23 → ⊥
    by true g f a b c z = omega (arith, ap (λ (x : Result). x.ans.code) (poll_out_gone n t q op e a))
    by false true f a b c z = omega (arith, ap (λ (x : Result). x.ans.code) (poll_out_granted n t q op e a b), ends (set_outs (ended n q.outs) q))
    by false false true a b c z = omega (arith, ap (λ (x : Result). x.ans.code) (poll_out_room n t q op e a b c), ends (acquire (set_outs (ended n q.outs) q)))
    by false false false a b c z = omega (arith, ap (λ (x : Result). x.ans.code) (poll_out_pending n t q op e a b c))

pub short_of_permits : (q : Queue) → lowest q.permits ≡ None → ShortOfPermits q
unfolding step
short_of_permits q short =
    record {
      try_res = λ s m e u r f. try_res_given s q m e u r f ∙ give_permit_short s q (acquire q) short;
      granted = λ n t h e r.
          poll_out_granted n t q (record { owner = h; job = bare; stage = called }) e r refl ∙ give_permit_short h q (set_outs (ended n q.outs) q) short;
      with_room = λ n t h e r f.
          poll_out_room n t q (record { owner = h; job = bare; stage = idle }) e r refl (ap not f) ∙ give_permit_short h q (acquire (set_outs (ended n q.outs) q)) short;
      not_a_send = λ n t h v st e. not_a_send n t q (record { owner = h; job = carrying v; stage = st }) v refl e;
    }
