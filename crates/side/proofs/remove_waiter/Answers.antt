-- `side::remove_waiter` meets its contract.
-- Assumes nothing.
use Rattle.side.proofs.Steps.{leaves}
use Rattle.side.proofs.remove_waiter.Goals as goal

pub returns : goal.returns
returns c = search leaves
