-- THE MEANING OF A QUEUE, and what every call may rely on: that the queue came from make or make-u and calls. Assumes nothing.
use Rattle.std.specs.Prelude.{◌≡◌, ℕ, List, Option, None, Some}
use Rattle.ring.specs.Values as ring
use Rattle.tables.specs.Meaning.{handles_of, permits_of}
use Rattle.side.specs.Meaning.{side_of}
use Rattle.side.specs.Sound as side
use Rattle.model.specs.Queue as model
use Rattle.model.specs.declared.Call.{Call}
use Rattle.model.specs.Calls.{Begin, begin, after}
use Rattle.queue.specs.declared.Queue.{Queue}

-- the free slots, which an unbounded queue does not count
abbrev pub room_of : Option ℕ → model.Room
room_of None = model.unbounded
room_of (Some n) = model.slots n

abbrev pub queue_of : Queue → model.Queue
queue_of q = record {
  cap = q.capacity;
  values = ring.values q.values;
  free = room_of q.available;
  senders = handles_of q.senders;
  receivers = handles_of q.receivers;
  outs = side_of q.outs;
  ins = side_of q.ins;
  permits = permits_of q.permits;
}

-- each side is sound, which its type says, as the types of the ring and of the tables do what those keep: `shaped_of` (proofs/Settled.antt)
pub record Shaped (q : Queue) : Type 0 where
  pub outs : side.Sound q.outs
  pub ins : side.Sound q.ins

-- it came from make or make-u and from calls: all that a call relies on besides
pub record Came (q : model.Queue) : Type 0 where
  pub begun : Begin
  pub calls : List Call
  pub is : q ≡ after calls (begin begun).next

pub record Sound (q : Queue) : Type 0 where
  pub shaped : Shaped q
  pub came : Came (queue_of q)
