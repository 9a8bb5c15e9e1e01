-- Assumes nothing.
use Rattle.queue.proofs.Making.{made_none, made_good}
use Rattle.queue.proofs.Queue.make.Goals as goal

pub returns-then-capacity-eq0 : goal.returns-then-capacity-eq0
returns-then-capacity-eq0 c = search made_none

pub returns : goal.returns
returns c = search made_good
