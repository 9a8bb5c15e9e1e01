-- `wakes::call_first` meets its contract. Nobody; the first.
-- Assumes nothing.
use Rattle.wakes.proofs.Steps.{call_none, call_some}
use Rattle.wakes.proofs.call_first.Goals as goal

pub returns-in_default : goal.returns-in_default
returns-in_default c = search call_none

pub returns : goal.returns
returns c = search call_some
