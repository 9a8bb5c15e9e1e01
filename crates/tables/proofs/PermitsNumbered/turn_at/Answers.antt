-- `tables::Permits` tells how many turns of a place are over.
-- Assumes nothing.
use Rattle.tables.proofs.Laws.{permit_turn_below, permit_turn_past}
use Rattle.tables.proofs.PermitsNumbered.turn_at.Goals as goal

pub returns-then-place-lt-LIMIT : goal.returns-then-place-lt-LIMIT
returns-then-place-lt-LIMIT c = search permit_turn_below

pub returns : goal.returns
returns c = search permit_turn_past
