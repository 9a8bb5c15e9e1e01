-- THE STEPS INSIDE THE CALLS, by the definition's move of each name. Assumes nothing.
use Rattle.std.specs.Prelude.{ℕ, ◌≤◌, ◌≡◌, Bool, true, false, not, ◌&&◌, List, [], ◌∷◌, eqb, ltb, length, if◌then◌else◌}
use Rattle.std.specs.Prelude.{Option, None, Some, option_map, option_to_list, Result, Ok, Err, OnErr, ok_or}
use Rattle.ring.specs.Values as ring
use Rattle.tables.specs.declared.Handles.{Handles}
use Rattle.tables.specs.Meaning.{handles_of, permits_of}
use Rattle.tables.specs.Calls.{Leaves}
use Rattle.side.specs.declared.Side.{Side}
use Rattle.side.specs.declared.Entry.{Entry}
use Rattle.side.specs.declared.Woken.{Woken}
use Rattle.side.specs.Meaning.{carried, side_of, deed_of}
use Rattle.model.specs.Table.{Table, blank, lookup, lowest, put, was_closed, live}
use Rattle.model.specs.Side as side
use Rattle.model.specs.Queue as model
use Rattle.model.specs.declared.Call.{Call}
use Rattle.model.specs.declared.Call.TheVariants.{Reserve, Send}
use Rattle.queue.specs.declared.Queue.{Queue}
use Rattle.queue.specs.declared.Counts.{Counts}
use Rattle.queue.specs.declared.Success.TheVariants.{Given}
use Rattle.queue.specs.declared.Error.{Error}
use Rattle.queue.specs.declared.Error.TheVariants.{Full, Empty, Disconnected, NoHandle, Closed, InUse, NoRoom, RingFull, WrongKind}
use Rattle.queue.specs.declared.Answer.{Answer}
use Rattle.queue.specs.declared.Turn.{Turn}
use Rattle.queue.specs.Meaning.{room_of, queue_of}
use Rattle.queue.specs.Answers.{Told, code_of, field_of, ans_of, result_of}

-- ---- answers
-- the token that is woken, if an operation was called
abbrev pub token_of : Option Woken → List ℕ
token_of woken = option_to_list (option_map (λ (w : Woken). w.token) woken)

-- what is told of a new record's number
abbrev pub number_told : Result ℕ Error → Told
number_told (Ok n) = Ok (Given n)
number_told (Err e) = Err e

-- an answer with these wakes and this retired token
pub record Says (what : Told) (wakes retired : List ℕ) (a : Answer) : Type 0 where
  pub is : ans_of a ≡ record { code = code_of what; field = field_of what; wakes = wakes; retired = retired }

-- what is told, woken and retired beside a queue
abbrev pub told : Told → List ℕ → List ℕ → Queue → model.Result
told what wakes retired q = model.reply (code_of what) (field_of what) wakes retired (queue_of q)

-- ---- what a step leaves of the queue q
-- an answer and a queue that are the definition's `want`; a refusal leaves q itself
pub record Does (want : model.Result) (q : Queue) (a : Answer) (q' : Queue) : Type 0 where
  pub is : result_of a q' ≡ want
  pub same : 20 ≤ code_of a.what → q' ≡ q

-- the number of a new record and a queue that are the definition's `want`; an error leaves q itself
pub record Gives (want : model.Result) (q : Queue) (number : Result ℕ Error) (q' : Queue) : Type 0 where
  pub is : told (number_told number) [] [] q' ≡ want
  pub same : OnErr number (q' ≡ q)

-- a move of the definition, with the operation that it called
pub record Moves (want : model.Moved) (q' : Queue) (woken : Option Woken) : Type 0 where
  pub next : queue_of q' ≡ want.next
  pub wakes : token_of woken ≡ want.wakes

-- ---- what a call is told of a number that it names: the record is live; or it was given and is closed, or it was never given
abbrev pub dead_by : Bool → Error
dead_by true = Closed
dead_by false = NoHandle

abbrev pub live_by : {A : Type 0} → Option A → Bool → Result (Unit {0}) Error
live_by None closed = Err (dead_by closed)
live_by (Some a) closed = Ok tt

abbrev pub live_in : {A : Type 0} → Table A → ℕ → Result (Unit {0}) Error
live_in t n = live_by (lookup t n) (was_closed t n)

-- the operation itself, if it is open
abbrev pub Finds : Side → ℕ → Result Entry Error → Type 0
Finds s n (Ok op) = lookup (side_of s).ops n ≡ Some (deed_of op)
Finds s n (Err e) = (lookup (side_of s).ops n ≡ None) × (e ≡ dead_by (was_closed (side_of s).ops n))

-- ---- handles
-- a handle that passed or failed this test is cloned: the number of the new one
abbrev pub cloned : Result (Unit {0}) Error → Option ℕ → Result ℕ Error
cloned (Ok known) next = ok_or next NoRoom
cloned (Err e) next = Err e

abbrev pub put_given : {A : Type 0} → Result ℕ Error → A → Table A → Table A
put_given (Ok n) a t = put t n a
put_given (Err e) a t = t

pub record ClonesIn (h : Handles) (n : ℕ) (r : Result ℕ Error) (h' : Handles) : Type 0 where
  pub number : r ≡ cloned (live_in (handles_of h) n) (lowest (handles_of h))
  pub table : handles_of h' ≡ put_given r tt (handles_of h)
  pub same : OnErr r (h' ≡ h)

-- a handle that passed or failed this test, and is busy or not, is closed
abbrev pub closable : Result (Unit {0}) Error → Bool → Result (Unit {0}) Error
closable (Ok known) busy = if busy then Err InUse else Ok tt
closable (Err e) busy = Err e

abbrev pub ClosesIn : Handles → ℕ → Bool → Result Handles Error → Type 0
ClosesIn h n busy (Ok left) = (closable (live_in (handles_of h) n) busy ≡ Ok tt) × Leaves h n left
ClosesIn h n busy (Err e) = closable (live_in (handles_of h) n) busy ≡ Err e

-- what the last receiver's drop leaves, of the queue without that receiver; and the last sender's
abbrev pub discarded : model.Queue → model.Result
discarded q = model.reply model.DONE (length q.values ∷ []) (side.all_tokens q.outs) [] (model.set_values [] (model.set_outs (side.closed_line q.outs) q))

abbrev pub silenced : model.Queue → model.Result
silenced q = model.reply model.DONE [] (side.all_tokens q.ins) [] (model.set_ins (side.closed_line q.ins) q)

-- ---- what receivers are told
-- of these values, where the senders are gone or not: the first, if there is one; or that none will ever come
abbrev pub takable_of : List ℕ → Bool → Result (Option ℕ) Error
takable_of [] gone = if gone then Err (Disconnected None) else Ok None
takable_of (v ∷ l) gone = Ok (Some v)

abbrev pub takable : model.Queue → Result (Option ℕ) Error
takable q = takable_of q.values (model.no_sender q)

-- a try-recv by a receiver that passed or failed its test
abbrev pub received : Result (Option ℕ) Error → Result ℕ Error
received (Ok front) = ok_or front Empty
received (Err e) = Err e

abbrev pub receivable_of : Result (Unit {0}) Error → Result (Option ℕ) Error → Result ℕ Error
receivable_of (Ok known) taken = received taken
receivable_of (Err e) taken = Err e

abbrev pub receivable : ℕ → model.Queue → Result ℕ Error
receivable r q = receivable_of (live_in q.receivers r) (takable q)

-- the first value goes, and its slot comes back
abbrev pub popped : model.Queue → model.Moved
popped q = model.release (model.set_values (ring.rest q.values) q)

-- a cancelled operation at this stage passes its notice on
abbrev pub passes : side.Stage → model.Queue → Bool
passes st q = eqb (side.is_called st) 1 && (not (model.no_sender q) && ltb 0 (length q.values))

-- ---- a free room of at most 64 slots, if it is counted
abbrev pub Small : Option ℕ → Type 0
Small None = Unit {0}
Small (Some n) = n ≤ 64

-- may an operation at this stage take a slot of it
abbrev pub ready : side.Stage → model.Room → Bool
ready st free = eqb (side.waits st) 0 && not (model.none_of free)

-- ---- what senders are told
-- a sender that passed or failed its test tries to send; c is what goes back where it does not go through
abbrev pub tried : Option ℕ → Result (Unit {0}) Error → Bool → Bool → Bool → Result (Unit {0}) Error
tried c (Ok known) gone full ring_full = if gone then Err (Disconnected c) else (if full then Err (Full c) else (if ring_full then Err RingFull else Ok tt))
tried c (Err e) gone full ring_full = Err e

unfoldable pub sendable : Option ℕ → ℕ → model.Queue → Result (Unit {0}) Error
sendable c s q = tried c (live_in q.senders s) (model.no_receiver q) (model.no_free q) (model.ring_full q)

-- and tries to reserve: on an unbounded queue nothing can be reserved
abbrev pub counted_by : Result (Unit {0}) Error → Bool → Result (Unit {0}) Error
counted_by (Ok known) without_count = if without_count then Err WrongKind else Ok tt
counted_by (Err e) without_count = Err e

unfoldable pub counted : ℕ → model.Queue → Result (Unit {0}) Error
counted s q = counted_by (live_in q.senders s) (model.is_unbounded q)

-- a permit of the sender s is given, if a number is left for one, and then this is the free room
pub record GivesPermit (q : Queue) (s : ℕ) (left : Option ℕ) (r : Result ℕ Error) (q' : Queue) : Type 0 where
  pub number : r ≡ ok_or (lowest (permits_of q.permits)) NoRoom
  pub given : (n : ℕ) → r ≡ Ok n → queue_of q' ≡ model.set_permits (put (permits_of q.permits) n s) (model.set_free (room_of left) (queue_of q))
  pub same : OnErr r (q' ≡ q)

-- the operation n, with what it carries and its sender, has its slot, and this is the free room
abbrev pub completed : ℕ → Option ℕ → ℕ → Option ℕ → model.Queue → model.Result
completed n c s left q = model.complete (carried c) s q (model.set_free (room_of left) (model.set_outs (side.ended n q.outs) q))

-- an operation that was at this stage is cancelled
abbrev pub cancelled : side.Stage → model.Queue → model.Result
cancelled st q = if eqb (side.is_called st) 1 then model.done_by (model.release q) else model.reply model.DONE [] [] (side.kept st) q

-- which call opens an operation with this cargo
abbrev pub opening : Option ℕ → ℕ → Call
opening None s = Reserve s
opening (Some v) s = Send s v

-- ---- the counts
pub record Counted (q : Queue) (r : Counts) : Type 0 where
  pub queued : r.queued ≡ length (queue_of q).values
  pub free : r.free ≡ q.available
  pub permits : r.permits ≡ live (queue_of q).permits
  pub granted : r.granted ≡ side.called_count (queue_of q).outs
  pub lined : r.lined ≡ length (queue_of q).outs.line
  pub waiting : r.waiting ≡ side.polled_count (queue_of q).ins

-- ---- a queue with nothing in it, and these handles on both sides
pub record Blank (c : ℕ) (f : Option ℕ) (h : Handles) (r : Queue) : Type 0 where
  pub is : queue_of r ≡ record {
    cap = c;
    values = [];
    free = room_of f;
    senders = handles_of h;
    receivers = handles_of h;
    outs = record { ops = blank 32; line = [] };
    ins = record { ops = blank 32; line = [] };
    permits = blank 64;
  }

-- an answer Done beside a fresh queue of a capacity and a free room
pub record Begun (c : ℕ) (f : Option ℕ) (r : Turn) : Type 0 where
  pub is : result_of r.answer r.queue ≡ model.reply model.DONE [] [] [] (model.fresh c (room_of f))
