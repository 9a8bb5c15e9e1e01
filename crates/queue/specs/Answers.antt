-- THE ANSWERS: the specification's number and field for each case, and what an answer tells. Assumes nothing.
use Rattle.std.specs.Prelude.{ℕ, List, [], ◌∷◌, ◌++◌, Result, Ok, Err, option_to_list}
use Rattle.side.specs.Meaning.{carried}
use Rattle.wakes.specs.Tokens.{tokens_of}
use Rattle.model.specs.Queue as model
use Rattle.model.specs.Calls.{shown}
use Rattle.queue.specs.declared.Queue.{Queue}
use Rattle.queue.specs.declared.Success.{Success}
use Rattle.queue.specs.declared.Success.TheVariants.{Done, Discarded, Value, Given, Pending, Status}
use Rattle.queue.specs.declared.Error.{Error}
use Rattle.queue.specs.declared.Error.TheVariants.{Full, Empty, Disconnected, BadCapacity, NoHandle, Closed, InUse, NoRoom, RingFull, WrongKind}
use Rattle.queue.specs.declared.Answer.{Answer}
use Rattle.queue.specs.Meaning.{room_of, queue_of}

-- what a call tells: how it succeeded, or its error
abbrev pub Told : Type 0
Told = Result Success Error

abbrev pub code_of : Told → ℕ
code_of (Ok Done) = model.DONE
code_of (Ok (Discarded n)) = model.DONE
code_of (Ok (Value v)) = model.VALUE
code_of (Ok (Given n)) = model.GIVEN
code_of (Ok Pending) = model.PENDING
code_of (Ok (Status s)) = model.STATUS
code_of (Err (Full c)) = model.FULL
code_of (Err Empty) = model.EMPTY
code_of (Err (Disconnected c)) = model.DISCONNECTED
code_of (Err BadCapacity) = model.BAD_CAPACITY
code_of (Err NoHandle) = model.NO_HANDLE
code_of (Err Closed) = model.CLOSED
code_of (Err InUse) = model.IN_USE
code_of (Err NoRoom) = model.NO_ROOM
code_of (Err RingFull) = model.RING_FULL
code_of (Err WrongKind) = model.WRONG_KIND

abbrev pub field_of : Told → List ℕ
field_of (Ok Done) = []
field_of (Ok (Discarded n)) = n ∷ []
field_of (Ok (Value v)) = v ∷ []
field_of (Ok (Given n)) = n ∷ []
field_of (Ok Pending) = []
field_of (Ok (Status s)) = s.queued ∷ (shown (room_of s.free) ++ (s.permits ∷ s.granted ∷ s.lined ∷ s.waiting ∷ []))
field_of (Err (Full c)) = model.cargo (carried c)
field_of (Err Empty) = []
field_of (Err (Disconnected c)) = model.cargo (carried c)
field_of (Err BadCapacity) = []
field_of (Err NoHandle) = []
field_of (Err Closed) = []
field_of (Err InUse) = []
field_of (Err NoRoom) = []
field_of (Err RingFull) = []
field_of (Err WrongKind) = []

-- code, field, tokens to wake in order, retired token
abbrev pub ans_of : Answer → model.Ans
ans_of a = record { code = code_of a.what; field = field_of a.what; wakes = tokens_of a.wakes; retired = option_to_list a.retired }

-- an answer beside a queue, as the definition has them
abbrev pub result_of : Answer → Queue → model.Result
result_of a q = record { ans = ans_of a; next = queue_of q }
