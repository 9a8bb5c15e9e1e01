-- `side::Side::line_is_empty` meets its contract.
-- Assumes nothing.
use Rattle.side.proofs.Opens.{empty_line}
use Rattle.side.proofs.Side.line_is_empty.Goals as goal

pub returns : goal.returns
returns c = search empty_line
