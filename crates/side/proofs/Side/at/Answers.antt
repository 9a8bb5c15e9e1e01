-- `side::Side::at` meets its contract.
-- Assumes nothing.
use Rattle.side.proofs.Opens.{at_small, at_found, at_missing}
use Rattle.side.proofs.Side.at.Goals as goal

pub bounds-self-place : goal.bounds-self-place
bounds-self-place c = search at_small

pub returns-then-has : goal.returns-then-has
returns-then-has c = search at_found

pub returns : goal.returns
returns c = search at_missing
