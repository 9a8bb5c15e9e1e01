-- Assumes nothing.
use Rattle.queue.proofs.Handing.{clone_s_turn}
use Rattle.queue.proofs.Queue.clone_s.Goals as goal

pub returns : goal.returns
returns c = search clone_s_turn
