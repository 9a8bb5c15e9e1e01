-- `tables::Handles` tells how many turns of a place are over.
-- Assumes nothing.
use Rattle.tables.proofs.Laws.{handle_turn_below, handle_turn_past}
use Rattle.tables.proofs.HandlesNumbered.turn_at.Goals as goal

pub returns-then-place-lt-LIMIT : goal.returns-then-place-lt-LIMIT
returns-then-place-lt-LIMIT c = search handle_turn_below

pub returns : goal.returns
returns c = search handle_turn_past
