-- `side::Side::end` meets its contract.
-- Assumes nothing.
use Rattle.side.proofs.Numbers.{in_array}
use Rattle.side.proofs.Steps.{end_kept, end_done}
use Rattle.side.proofs.Side.end.Goals as goal

pub bounds-out-place : goal.bounds-out-place
bounds-out-place c = search in_array

pub returns : goal.returns
returns c = search end_done

pub invariant_of-out : goal.invariant_of-out
invariant_of-out c = search end_kept
