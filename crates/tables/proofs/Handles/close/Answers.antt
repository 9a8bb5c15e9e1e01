-- `tables::Handles::close` meets its contract.
-- Assumes nothing.
use Rattle.tables.proofs.Laws.{handle_closing, handle_closed_used, handle_closed}
use Rattle.tables.proofs.Handles.close.Goals as goal

pub bounds-self-place : goal.bounds-self-place
bounds-self-place c = search handle_closing

pub invariant_of-self : goal.invariant_of-self
invariant_of-self c = search handle_closed_used

pub returns : goal.returns
returns c = search handle_closed
