-- Assumes nothing.
use Rattle.queue.proofs.Sending.{room_granted, room_ready, polled_pending}
use Rattle.queue.proofs.Queue.polled_out.Goals as goal

pub complete-requires-clause-room : goal.complete-requires-clause-room
complete-requires-clause-room c = search room_granted

pub complete-requires-then-is_ready-clause-room : goal.complete-requires-then-is_ready-clause-room
complete-requires-then-is_ready-clause-room c = search room_ready

pub returns : goal.returns
returns c = search polled_pending
