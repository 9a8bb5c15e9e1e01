-- `side::Side::in_line` meets its contract: it counts the operations that wait.
-- Assumes nothing.
use Rattle.side.proofs.Counts.{waits}
use Rattle.side.proofs.Side.in_line.Given as goal

abbrev pub ghost-count_where : goal.ghost-count_where
ghost-count_where a = waits
