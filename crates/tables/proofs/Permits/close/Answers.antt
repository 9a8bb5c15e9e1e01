-- `tables::Permits::close` meets its contract.
-- Assumes nothing.
use Rattle.tables.proofs.Laws.{permit_closed_used, permit_closed_wiped, permit_closed}
use Rattle.tables.proofs.Permits.close.Goals as goal

pub invariant_of-self : goal.invariant_of-self
invariant_of-self c = search (permit_closed_used, permit_closed_wiped)

pub returns : goal.returns
returns c = search permit_closed
