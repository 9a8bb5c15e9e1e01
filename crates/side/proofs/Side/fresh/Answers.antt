-- `side::Side::fresh` meets its contract.
-- Assumes nothing.
use Rattle.side.proofs.Opens.{fresh_kept, fresh_side}
use Rattle.side.proofs.Side.fresh.Goals as goal

pub returns : goal.returns
returns c = search fresh_side

pub invariant_of-result : goal.invariant_of-result
invariant_of-result c = search fresh_kept
