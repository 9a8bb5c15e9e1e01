-- Assumes nothing.
use Rattle.queue.proofs.Handing.{clone_r_turn}
use Rattle.queue.proofs.Queue.clone_r.Goals as goal

pub returns : goal.returns
returns c = search clone_r_turn
