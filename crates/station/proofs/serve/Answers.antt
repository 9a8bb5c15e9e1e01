-- `station::serve` meets its contract: each arm's method keeps the same promise of its call.
-- Assumes nothing.
use Rattle.std.proofs.Common.{◌≡◌}
use Rattle.model.specs.declared.Call.{Call}
use Rattle.queue.specs.declared.Queue.{Queue}
use Rattle.queue.specs.declared.Turn.{Turn}
use Rattle.queue.specs.Promise.{Turned}
use Rattle.station.proofs.serve.Goals as goal
use Rattle.station.proofs.serve.Goals.{in-CloneS, in-CloneR, in-TrySend, in-TryRes, in-Reserve, in-Send, in-Recv, in-PollOut, in-CancelOut, in-PermitSend, in-PermitDrop, in-TryRecv, in-PollIn, in-CancelIn, in-DropS, in-DropR, in-Status}

-- the arm for the call c gave the turn t
by_arm : (q : Queue) (call c : Call) (turn t : Turn) → call ≡ c → Turned q c t.answer t.queue → turn ≡ t → Turned q call turn.answer turn.queue
by_arm q call c turn t is does gave = rw (is, gave) does

pub returns : goal.returns
returns c =
    elim c.match-c.branch [
      | in-CloneS w ↦ search by_arm
      | in-CloneR w ↦ search by_arm
      | in-TrySend w ↦ search by_arm
      | in-TryRes w ↦ search by_arm
      | in-Reserve w ↦ search by_arm
      | in-Send w ↦ search by_arm
      | in-Recv w ↦ search by_arm
      | in-PollOut w ↦ search by_arm
      | in-CancelOut w ↦ search by_arm
      | in-PermitSend w ↦ search by_arm
      | in-PermitDrop w ↦ search by_arm
      | in-TryRecv w ↦ search by_arm
      | in-PollIn w ↦ search by_arm
      | in-CancelIn w ↦ search by_arm
      | in-DropS w ↦ search by_arm
      | in-DropR w ↦ search by_arm
      | in-Status w ↦ search by_arm
    ]
