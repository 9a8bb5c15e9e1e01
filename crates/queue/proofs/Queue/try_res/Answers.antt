-- Assumes nothing.
use Rattle.queue.proofs.Settled.{gives}
use Rattle.queue.proofs.Queue.try_res.Goals as goal

pub returns : goal.returns
returns c = search gives
