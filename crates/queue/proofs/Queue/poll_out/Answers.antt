-- Assumes nothing.
use Rattle.queue.proofs.Settled.{does}
use Rattle.queue.proofs.Queue.poll_out.Goals as goal

pub returns-in-Ok : goal.returns-in-Ok
returns-in-Ok c = search does
