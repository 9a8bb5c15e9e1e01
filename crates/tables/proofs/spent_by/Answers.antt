-- `tables::spent_by` meets its contract.
-- Assumes nothing.
use Rattle.tables.proofs.PlaceLaws.{spent_not, spent_last}
use Rattle.tables.proofs.spent_by.Goals as goal

pub returns-then-over-le-LAST_TURN : goal.returns-then-over-le-LAST_TURN
returns-then-over-le-LAST_TURN c = search spent_not

pub returns : goal.returns
returns c = search spent_last
