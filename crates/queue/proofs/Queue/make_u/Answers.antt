-- Assumes nothing.
use Rattle.queue.proofs.Making.{made_uncounted}
use Rattle.queue.proofs.Queue.make_u.Goals as goal

pub returns : goal.returns
returns c = search made_uncounted
