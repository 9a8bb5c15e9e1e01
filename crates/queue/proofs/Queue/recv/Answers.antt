-- Assumes nothing.
use Rattle.queue.proofs.Settled.{gives}
use Rattle.queue.proofs.Queue.recv.Goals as goal

pub returns : goal.returns
returns c = search gives
