-- NUMBERS WITH TURNS: a number that was closed is never live again, for any calls after it, and a call with it changes nothing; and no
-- number is too large. proofs/Theorems.antt proves this of `after cs (begin b).next`, for any beginning b and any calls cs. Where no number
-- is left for a permit: proofs/Turns.antt proves that of any queue. Nothing is assumed.
use Rattle.std.specs.Prelude.{◌≡◌, Bool, true, false, List, ℕ, ◌≤◌}
use Rattle.std.specs.Prelude.{Option, None, Some}
use Rattle.model.specs.Table.{lookup}
use Rattle.model.specs.Side.{Stage, idle, called}
use Rattle.model.specs.Queue.{Queue, Mark, bare, carrying, is_unbounded, no_receiver, no_free, refuse, CLOSED, NO_ROOM}
use Rattle.model.specs.Calls.{step, after}
use Rattle.model.specs.Calls.{Call, CloneS, CloneR, TrySend, TryRes, Reserve, Send, Recv, PollOut, CancelOut}
use Rattle.model.specs.Calls.{PermitSend, PermitDrop, TryRecv, PollIn, CancelIn, DropS, DropR, Status}
use Rattle.model.specs.Promises.{Open}

-- A HANDLE: a kind of record, and a number of that kind
pub data Kind : Type 0 where
  sender : Kind
  receiver : Kind
  outgoing : Kind
  incoming : Kind
  permit : Kind

pub record Handle : Type 0 where
  pub kind : Kind
  pub number : ℕ

-- the handle that a call names; status names none
abbrev pub the : Kind → ℕ → Option Handle
the k n = Some (record { kind = k; number = n })

abbrev pub named : Call → Option Handle
named (CloneS s) = the sender s
named (CloneR r) = the receiver r
named (TrySend s v) = the sender s
named (TryRes s) = the sender s
named (Reserve s) = the sender s
named (Send s v) = the sender s
named (Recv r) = the receiver r
named (PollOut n t) = the outgoing n
named (CancelOut n) = the outgoing n
named (PermitSend p v) = the permit p
named (PermitDrop p) = the permit p
named (TryRecv r) = the receiver r
named (PollIn n t) = the incoming n
named (CancelIn n) = the incoming n
named (DropS s) = the sender s
named (DropR r) = the receiver r
named Status = None

-- is it live in a queue
abbrev pub found : {A : Type 0} → Option A → Bool
found None = false
found (Some a) = true

abbrev pub live_as : Kind → ℕ → Queue → Bool
live_as sender n q = found (lookup q.senders n)
live_as receiver n q = found (lookup q.receivers n)
live_as outgoing n q = found (lookup q.outs.ops n)
live_as incoming n q = found (lookup q.ins.ops n)
live_as permit n q = found (lookup q.permits n)

abbrev pub is_live : Handle → Queue → Bool
is_live x q = live_as x.kind x.number q

-- CLOSED FOR GOOD: from this queue on no calls make x live, and a call that names x is answered 26 and changes nothing
pub record ClosedForGood (x : Handle) (q : Queue) : Type 0 where
  pub never_live : (cs : List Call) → is_live x (after cs q) ≡ false
  pub changes_nothing : (cs : List Call) (c : Call) → named c ≡ Some x → step c (after cs q) ≡ refuse CLOSED (after cs q)

-- whatever is live in the queue and is not after some calls
abbrev pub NeverAgain : Queue → Type 0
NeverAgain q = (x : Handle) (cs : List Call) → is_live x q ≡ true → is_live x (after cs q) ≡ false → ClosedForGood x (after cs q)

-- EVERY NUMBER FITS IN 32 BITS: no turn begins after the last
abbrev pub NumbersFit : Queue → Type 0
NumbersFit q = (x : Handle) → is_live x q ≡ true → x.number ≤ 4294967295

-- PERMITS RUN SHORT: with no number left for one, what would give a permit answers 23 and changes nothing, the operation included. These are
-- a try-res with free room, and a poll-out of a reserve that is granted, or that is not in line while there is free room. A send is not
-- refused so.
pub record ShortOfPermits (q : Queue) : Type 0 where
  pub try_res : (s : ℕ) (m : Mark) → lookup q.senders s ≡ Some m → is_unbounded q ≡ false → no_receiver q ≡ false → no_free q ≡ false
      → step (TryRes s) q ≡ refuse NO_ROOM q
  pub granted : (n t h : ℕ) → Open q.outs n h bare called → no_receiver q ≡ false → step (PollOut n t) q ≡ refuse NO_ROOM q
  pub with_room : (n t h : ℕ) → Open q.outs n h bare idle → no_receiver q ≡ false → no_free q ≡ false → step (PollOut n t) q ≡ refuse NO_ROOM q
  pub not_a_send : (n t h v : ℕ) (st : Stage) → Open q.outs n h (carrying v) st → (step (PollOut n t) q).ans.code ≡ NO_ROOM → ⊥
