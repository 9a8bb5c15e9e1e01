-- Assumes nothing.
use Rattle.queue.proofs.Sending.{cancel_out_ended}
use Rattle.queue.proofs.Queue.cancel_out.Goals as goal

pub returns-in-Ok : goal.returns-in-Ok
returns-in-Ok c = search (cancel_out_ended, c.in-Ok.ensures)
