-- What senders do. Assumes nothing.
use Prim.Native.Nat.{ℕ, ◌-◌, ◌<◌}
use mathlib.Core.Path.{◌≡◌, refl, sym, ap, ap₂, ◌∙◌, subst}
use mathlib.Core.Bool.{Bool, true, false, not, ◌&&◌}
use mathlib.Core.List.{List, [], ◌∷◌}
use Rattle.std.specs.Prelude.{if◌then◌else◌, Option, None, Some, Result, Ok, Err, is_ok, option_to_list}
use native.Mathlib.Omega.{arith}
use borrow.Author.Tests.{eqb-true, eqb-false, leb-false, not-true}
use lib.Dec.{eqb, leb, ltb}
use lib.ListN.{length}
use Rattle.ring.specs.Values as ring
use Rattle.tables.specs.declared.Permits.{Permits}
use Rattle.tables.specs.Meaning.{handles_of, permits_of}
use Rattle.tables.specs.Calls.{Drops}
use Rattle.side.specs.declared.Side.{Side}
use Rattle.side.specs.declared.Entry.{Entry}
use Rattle.side.specs.declared.Woken.{Woken}
use Rattle.side.specs.declared.Pended.{Pended}
use Rattle.side.specs.Meaning.{Deed, side_of, stage_of, deed_of}
use Rattle.side.specs.Calls.{Open, Ends, Pends}
use Rattle.model.specs.Table.{Table, lookup, was_closed, clear, live, of}
use Rattle.model.specs.Side as side
use Rattle.model.specs.Queue as model
use Rattle.model.specs.declared.Call.TheVariants.{TrySend, PollOut, CancelOut, PermitSend, PermitDrop}
use Rattle.model.specs.Calls.{step, try_send, cancel_out, permit_send, permit_drop}
use Rattle.model.proofs.Steps.{and_right}
use Rattle.model.proofs.TableLaws.{is_live_lem, of_le}
use Rattle.model.proofs.Leaves.{poll_out_pending}
use Rattle.queue.specs.declared.Queue.{Queue}
use Rattle.queue.specs.declared.Error.{Error}
use Rattle.queue.specs.declared.Error.TheVariants.{Disconnected}
use Rattle.queue.specs.declared.Success.TheVariants.{Done, Pending}
use Rattle.queue.specs.declared.Answer.{Answer}
use Rattle.queue.specs.Meaning.{room_of, queue_of, Sound}
use Rattle.queue.specs.Answers.{Told}
use Rattle.queue.specs.Promise.{Turned}
use Rattle.queue.specs.Steps.{token_of, Says, Does, Moves, live_by, live_in, Finds, tried, sendable, GivesPermit, cancelled, ready}
use Rattle.queue.proofs.Settled.{kept, does, moves, decided, need_is, refuses, follows, on_the_way, done, slot_left, reserved_counted}
use Rattle.queue.proofs.Settled.{with_available, with_permits, with_outs, none_left, some_left}

-- ---- where a send finds a slot
passed : (c : Option ℕ) (l : Result (Unit {0}) Error) (gone full many : Bool) (u : Unit {0}) → Ok u ≡ tried c l gone full many → (gone ≡ false) × (full ≡ false) × (many ≡ false)
passed c (Err e) gone full many u h = let z : ◌≡◌ {A = ℕ} 0 1 = cc in absurd (omega arith)
passed c (Ok k) true full many u h = let z : ◌≡◌ {A = ℕ} 0 1 = cc in absurd (omega arith)
passed c (Ok k) false true many u h = let z : ◌≡◌ {A = ℕ} 0 1 = cc in absurd (omega arith)
passed c (Ok k) false false true u h = let z : ◌≡◌ {A = ℕ} 0 1 = cc in absurd (omega arith)
passed c (Ok k) false false false u h = (refl, refl, refl)

-- the ring has room where a slot is free; on an unbounded queue that is a test of its own
room_free : (q : Queue) → Sound q → model.no_receiver (queue_of q) ≡ false → model.no_free (queue_of q) ≡ false → model.ring_full (queue_of q) ≡ false → length (ring.values q.values) < 64
room_free q snd z g h = by (model.is_unbounded (queue_of q)) refl
  where
    by : (u : Bool) → model.is_unbounded (queue_of q) ≡ u → length (ring.values q.values) < 64
    by true e = leb-false 64 (length (ring.values q.values)) (sym (ap (λ (x : Bool). x && leb 64 (length (ring.values q.values))) e) ∙ h)
    by false e =
        let i = kept q snd in
        let n = eqb-false (live (handles_of q.receivers)) 0 z in
        let p : 0 < live (handles_of q.receivers) = omega arith in
        omega (arith, slot_left q snd e g, i.account.room p, i.sizes.capacity)

module _ (q : Queue) (c : Option ℕ) (s : ℕ) (u : Unit {0}) (h : Ok u ≡ sendable c s (queue_of q)) where
  found : (model.no_receiver (queue_of q) ≡ false) × (model.no_free (queue_of q) ≡ false) × (model.ring_full (queue_of q) ≡ false)
  unfolding sendable
  found = passed c (live_in (handles_of q.senders) s) (model.no_receiver (queue_of q)) (model.no_free (queue_of q)) (model.ring_full (queue_of q)) u h

  pub slot_free : model.none_of (room_of q.available) ≡ false
  slot_free = found.1

  pub room_sent : Sound q → length (ring.values q.values) < 64
  room_sent snd = room_free q snd found.0 found.1 found.2

-- ---- try_send
try_send_is : (s v : ℕ) (q : model.Queue) → decided (λ (u : Unit {0}). model.done_by (model.push v (model.acquire q))) (sendable (Some v) s q) q ≡ step (TrySend s v) q
unfolding step try_send sendable
try_send_is s v q = by (lookup q.senders s) (was_closed q.senders s) (model.no_receiver q) (model.no_free q) (model.ring_full q)
  where
    by : (o : Option model.Mark) (closed gone full many : Bool)
        → decided (λ (u : Unit {0}). model.done_by (model.push v (model.acquire q))) (tried (Some v) (live_by o closed) gone full many) q
        ≡ model.need_of o (if closed then model.CLOSED else model.NO_HANDLE) q (λ _. if gone then model.reply model.DISCONNECTED (v ∷ []) [] [] q else if full then model.reply model.FULL (v ∷ []) [] [] q else if many then model.refuse model.RING_FULL q else model.done_by (model.push v (model.acquire q)))
    by None true gone full many = refl
    by None false gone full many = refl
    by (Some a) closed true full many = refl
    by (Some a) closed false true many = refl
    by (Some a) closed false false true = refl
    by (Some a) closed false false false = refl

module _ (q : Queue) (snd : Sound q) (s v : ℕ) (a : Answer) where
  pub try_send_refused : (e : Error) → Err e ≡ sendable (Some v) s (queue_of q) → Says (Err e) [] [] a → Turned q (TrySend s v) a q
  try_send_refused e h u = does q (TrySend s v) a q snd (refuses _ _ q _ (try_send_is s v (queue_of q)) e a h u)

  pub try_send_sent : (k : Unit {0}) (left : Option ℕ) (woken : Option Woken) (q' : Queue) → Ok k ≡ sendable (Some v) s (queue_of q) → room_of left ≡ model.recount (λ n. n - 1) (room_of q.available)
      → Moves (model.push v (queue_of (with_available left q))) q' woken → Says (Ok Done) (token_of woken) [] a → Turned q (TrySend s v) a q'
  try_send_sent k left woken q' h g m u =
      does q (TrySend s v) a q' snd
      (subst (λ (w : model.Result). Does w q a q')
      (ap (λ (r : model.Room). model.done_by (model.push v (model.set_free r (queue_of q)))) g ∙ follows _ _ q _ (try_send_is s v (queue_of q)) k h)
      (done _ q woken a q' m u))

-- what is told of a send that went through, or of why it did not
abbrev pub sent_told : Result (Unit {0}) Error → Told
sent_told (Ok u) = Ok Done
sent_told (Err e) = Err e

-- where nothing stopped it, that is Done
pub is_done_lem : (c : Option ℕ) (s : ℕ) (q : model.Queue) (what : Told) → what ≡ sent_told (sendable c s q) → (b : Bool) → b ≡ is_ok what → b ≡ true → what ≡ Ok Done
is_done_lem c s q what e b f d = by (sendable c s q) e (sym (ap (λ (x : Told). is_ok x) e) ∙ (sym f ∙ d))
  where
    by : (r : Result (Unit {0}) Error) → what ≡ sent_told r → is_ok (sent_told r) ≡ true → what ≡ Ok Done
    by (Ok u) e h = e
    by (Err x) e h = let z : ◌≡◌ {A = ℕ} 0 1 = cc in absurd (omega arith)

-- ---- a permit is given, if a number is left for one
module _ (q : Queue) (s : ℕ) (left : Option ℕ) (r : Result ℕ Error) (q' : Queue) (k : GivesPermit q s left r q') where
  -- no operation of a sender is touched
  pub still_open : (b : Bool) → b ≡ is_ok r → b ≡ true → (n : ℕ) (op : Deed) → lookup (side_of q.outs).ops n ≡ Some op → Open q'.outs n
  still_open b h t n op f = by r refl (sym h ∙ t)
    where
      by : (r' : Result ℕ Error) → r ≡ r' → is_ok r' ≡ true → Open q'.outs n
      by (Ok m) e y = (op, ap (λ (x : model.Queue). lookup x.outs.ops n) (k.given m e) ∙ f)
      by (Err x) e y = let z : ◌≡◌ {A = ℕ} 0 1 = cc in absurd (omega arith)

-- ---- poll_out
module _ (q : Queue) (snd : Sound q) (n : ℕ) (op : Entry) (f : Finds q.outs n (Ok op)) (k : ℕ) (g : k ≡ live (handles_of q.receivers)) (z : k ≡ 0 → ⊥) where
  -- a granted operation is one of the called ones
  pub room_granted : (b : Bool) → b ≡ eqb (side.is_called (stage_of op.stage)) 1 → b ≡ true → length (ring.values q.values) < 64
  room_granted b h y =
      let i = kept q snd in
      let p : 0 < live (handles_of q.receivers) = omega arith in
      let c = of_le (λ (o : Deed). side.is_called o.stage) (side_of q.outs).ops n in
      let w = eqb-true (side.is_called (stage_of op.stage)) 1 (sym h ∙ y) in
      let v = ap (of (λ (o : Deed). side.is_called o.stage)) f in
      omega (arith, c, w, v, i.account.room p, i.sizes.capacity)

  -- an open operation, so slots are counted, and where it is ready one is free
  pub ready_free : (b : Bool) → b ≡ ready (stage_of op.stage) (room_of q.available) → b ≡ true → model.none_of (room_of q.available) ≡ false
  ready_free b h y = not-true (model.none_of (room_of q.available)) (and_right (eqb (side.waits (stage_of op.stage)) 0) (not (model.none_of (room_of q.available))) (sym h ∙ y))

  pub room_ready : (b : Bool) → b ≡ ready (stage_of op.stage) (room_of q.available) → b ≡ true → length (ring.values q.values) < 64
  room_ready b h y =
      let i = kept q snd in
      let p : 0 < live (handles_of q.receivers) = omega arith in
      omega (arith, slot_left q snd (reserved_counted q snd n (deed_of op) f) (ready_free b h y), i.account.room p, i.sizes.capacity)

module _ (q : Queue) (n t : ℕ) (op : Entry) (f : Finds q.outs n (Ok op)) (k : ℕ) (g : k ≡ live (handles_of q.receivers)) (a : Answer) where
  module _ (z : k ≡ 0 → ⊥) (b : Bool) (h : b ≡ eqb (side.is_called (stage_of op.stage)) 1) where
    left : model.no_receiver (queue_of q) ≡ false
    left = some_left (handles_of q.receivers) k g z

    module _ (y : b ≡ false) (b2 : Bool) (j : b2 ≡ ready (stage_of op.stage) (room_of q.available)) where
      pub polled_pending : (o : Pended) → b2 ≡ false → Pends q.outs n t o → Says (Ok Pending) [] (option_to_list o.retired) a → Does (step (PollOut n t) (queue_of q)) q a (with_outs o.side q)
      unfolding step
      polled_pending o e x u =
          moves _ q (Ok Pending) a [] (option_to_list o.retired) (with_outs o.side q) u refl
          (ap₂ (λ (l : List ℕ) (y : side.Side model.Job). model.reply model.PENDING [] [] l (model.set_outs y (queue_of q))) (x.retired (deed_of op) f) (x.side (deed_of op) f)
          ∙ sym (poll_out_pending n t (queue_of q) (deed_of op) f left (sym h ∙ y) (sym j ∙ e)))

-- ---- cancel_out
cancel_out_is : (n : ℕ) (op : Deed) (q : model.Queue) → lookup q.outs.ops n ≡ Some op → cancelled op.stage (model.set_outs (side.ended n q.outs) q) ≡ step (CancelOut n) q
unfolding step cancel_out
cancel_out_is n op q f = sym (ap (λ (o : Option Deed). model.need_of o (model.dead q.outs.ops n) q (λ (x : Deed). cancelled x.stage (model.set_outs (side.ended n q.outs) q))) f)

-- no refusal either way
cancelled_goes : (b : Bool) (mv : model.Moved) (kept : List ℕ) (q : model.Queue) → ltb (if b then model.done_by mv else model.reply model.DONE [] [] kept q).ans.code 20 ≡ true
cancelled_goes true mv kept q = refl
cancelled_goes false mv kept q = refl

pub cancel_out_ended : (q : Queue) (snd : Sound q) (n : ℕ) (a : Answer) (op : Entry) → Finds q.outs n (Ok op) → (o : Side) → Ends q.outs n o → (q' : Queue)
    → Does (cancelled (stage_of op.stage) (queue_of (with_outs o q))) (with_outs o q) a q' → Turned q (CancelOut n) a q'
cancel_out_ended q snd n a op f o k q' d =
    does q (CancelOut n) a q' snd
    (subst (λ (w : model.Result). Does w q a q')
    (ap (λ (x : side.Side model.Job). cancelled (stage_of op.stage) (model.set_outs x (queue_of q))) k.side ∙ cancel_out_is n (deed_of op) (queue_of q) f)
    (on_the_way q (with_outs o q) _ a q' (cancelled_goes (eqb (side.is_called (stage_of op.stage)) 1) (model.release (queue_of (with_outs o q))) (side.kept (stage_of op.stage)) (queue_of (with_outs o q))) d))

-- ---- permit_send, permit_drop
-- what follows where the permit is live: its slot takes the value, or is released
abbrev permit_sends : ℕ → model.Queue → model.Result
permit_sends v q = if model.no_receiver q then model.reply model.DISCONNECTED (v ∷ []) [] [] q else model.done_by (model.push v q)

permit_send_is : (p v : ℕ) (q : model.Queue) → decided (λ (u : Unit {0}). permit_sends v (model.set_permits (clear q.permits p) q)) (live_in q.permits p) q ≡ step (PermitSend p v) q
unfolding step permit_send
permit_send_is p v q = need_is _ (lookup q.permits p) (was_closed q.permits p) q

permit_drop_is : (p : ℕ) (q : model.Queue) → decided (λ (u : Unit {0}). model.done_by (model.release (model.set_permits (clear q.permits p) q))) (live_in q.permits p) q ≡ step (PermitDrop p) q
unfolding step permit_drop
permit_drop_is p q = need_is _ (lookup q.permits p) (was_closed q.permits p) q

-- a permit that passed its test is live
live_one : {A : Type 0} (o : Option A) (closed : Bool) (u : Unit {0}) → Ok u ≡ live_by o closed → (x : A) × (o ≡ Some x)
live_one None closed u h = let z : ◌≡◌ {A = ℕ} 0 1 = cc in absurd (omega arith)
live_one (Some x) closed u h = (x, refl)

module _ (q : Queue) (snd : Sound q) (p : ℕ) (a : Answer) where
  module _ (x : Unit {0}) (h : Ok x ≡ live_in (permits_of q.permits) p) (t : Permits) (k : Drops q.permits p t) where
    without_p : queue_of (with_permits t q) ≡ model.set_permits (clear (permits_of q.permits) p) (queue_of q)
    without_p = ap (λ (y : Table ℕ). model.set_permits y (queue_of q)) k.permits

    pub permit_dropped : (woken : Option Woken) (q' : Queue) → Moves (model.release (queue_of (with_permits t q))) q' woken → Says (Ok Done) (token_of woken) [] a → Turned q (PermitDrop p) a q'
    permit_dropped woken q' m u =
        does q (PermitDrop p) a q' snd
        (subst (λ (w : model.Result). Does w q a q')
        (ap (λ (y : model.Queue). model.done_by (model.release y)) without_p ∙ follows _ _ q _ (permit_drop_is p (queue_of q)) x h)
        (done _ q woken a q' m u))

    module _ (n : ℕ) (f : n ≡ live (handles_of q.receivers)) (v : ℕ) where
      sends : permit_sends v (queue_of (with_permits t q)) ≡ step (PermitSend p v) (queue_of q)
      sends = ap (permit_sends v) without_p ∙ follows _ _ q _ (permit_send_is p v (queue_of q)) x h

      pub permit_gone : n ≡ 0 → Says (Err (Disconnected (Some v))) [] [] a → Turned q (PermitSend p v) a (with_permits t q)
      permit_gone z u =
          does q (PermitSend p v) a (with_permits t q) snd
          (moves _ q (Err (Disconnected (Some v))) a [] [] (with_permits t q) u refl
          (sym (ap (λ (b : Bool). if b then model.reply model.DISCONNECTED (v ∷ []) [] [] (queue_of (with_permits t q)) else model.done_by (model.push v (queue_of (with_permits t q)))) (none_left (handles_of q.receivers) n f z)) ∙ sends))

      pub permit_sent : (woken : Option Woken) (q' : Queue) → (n ≡ 0 → ⊥) → Moves (model.push v (queue_of (with_permits t q))) q' woken → Says (Ok Done) (token_of woken) [] a → Turned q (PermitSend p v) a q'
      permit_sent woken q' z m u =
          does q (PermitSend p v) a q' snd
          (subst (λ (w : model.Result). Does w q a q')
          (sym (ap (λ (b : Bool). if b then model.reply model.DISCONNECTED (v ∷ []) [] [] (queue_of (with_permits t q)) else model.done_by (model.push v (queue_of (with_permits t q)))) (some_left (handles_of q.receivers) n f z)) ∙ sends)
          (done _ q woken a q' m u))

-- the ring has room: the permit's slot is none of its values'
pub room_permit : (q : Queue) (snd : Sound q) (p : ℕ) (x : Unit {0}) → Ok x ≡ live_in (permits_of q.permits) p → (n : ℕ) → n ≡ live (handles_of q.receivers) → (n ≡ 0 → ⊥) → length (ring.values q.values) < 64
room_permit q snd p x h n f z =
    let l = live_one (lookup (permits_of q.permits) p) (was_closed (permits_of q.permits) p) x h in
    let i = kept q snd in
    let y : 0 < live (handles_of q.receivers) = omega arith in
    omega (arith, i.account.room y, i.sizes.capacity, is_live_lem (permits_of q.permits) p l.0 l.1)
