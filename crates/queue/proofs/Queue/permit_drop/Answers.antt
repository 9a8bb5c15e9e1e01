-- Assumes nothing.
use Rattle.queue.proofs.Sending.{permit_dropped}
use Rattle.queue.proofs.Queue.permit_drop.Goals as goal

pub returns-in-Ok : goal.returns-in-Ok
returns-in-Ok c = search (permit_dropped, c.in-Ok.ensures)
