-- `side::Side::count_where` meets its contract.
-- Assumes nothing.
use Rattle.std.proofs.Common.{of_calls}
use Rattle.side.proofs.Counts.{counting_none, counting_more, counting_done}
use Rattle.side.proofs.Side.count_where.Goals as goal

pub loop-place-init : goal.loop-place-init
loop-place-init g c = search counting_none

pub loop-place-preserved : goal.loop-place-preserved
loop-place-preserved g c = search (counting_more, of_calls)

pub returns : goal.returns
returns g c = search counting_done
