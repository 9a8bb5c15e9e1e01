-- `wakes::wake_all` meets its contract. The invariant: the tokens taken and those of the line that is left are those of the whole line.
-- Assumes nothing.
use native.Mathlib.Omega.{arith}
use Rattle.wakes.proofs.Steps.{waking_none, waking_stop, waking_more, waking_full}
use Rattle.wakes.proofs.wake_all.Goals as goal

pub loop-init : goal.loop-init
loop-init c = search waking_none

pub returns-in_default : goal.returns-in_default
returns-in_default c = search waking_stop

pub push-requires : goal.push-requires
push-requires c = omega (arith, c.loop.invariant.size)

pub loop-preserved : goal.loop-preserved
loop-preserved c = search waking_more

pub returns : goal.returns
returns c = search waking_full
