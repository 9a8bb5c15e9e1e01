-- `side::Side::count_where` meets its contract.
-- Assumes nothing.
use Rattle.side.proofs.Counts.{Counting}
use Rattle.side.proofs.Side.count_where.Given as goal

abbrev pub invariant-loop-place : goal.invariant-loop-place
invariant-loop-place g l = Counting g.counts l.self l.place l.total
