-- `tables::Permits::owned` meets its contract.
-- Assumes nothing.
use Rattle.tables.proofs.Laws.{own_live, own_vacant}
use Rattle.tables.proofs.Permits.owned.Goals as goal

pub returns-then-has : goal.returns-then-has
returns-then-has c = search own_live

pub returns-else-has : goal.returns-else-has
returns-else-has c = search own_vacant
