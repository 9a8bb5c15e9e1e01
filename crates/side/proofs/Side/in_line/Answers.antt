-- `side::Side::in_line` meets its contract.
-- Assumes nothing.
use Rattle.side.proofs.Counts.{line_counted}
use Rattle.side.proofs.Side.in_line.Goals as goal

pub returns : goal.returns
returns c = search line_counted
