-- `side::Side` tells how many turns of a place are over.
-- Assumes nothing.
use Rattle.side.proofs.Opens.{turn_inside, turn_past}
use Rattle.side.proofs.SideNumbered.turn_at.Goals as goal

pub returns-then-place-lt-LIMIT : goal.returns-then-place-lt-LIMIT
returns-then-place-lt-LIMIT c = search turn_inside

pub returns : goal.returns
returns c = search turn_past
