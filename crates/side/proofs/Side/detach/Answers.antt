-- `side::Side::detach` meets its contract. A node; no node.
-- Assumes nothing.
use Rattle.side.proofs.Numbers.{in_array}
use Rattle.side.proofs.Steps.{detach_none, detach_kept, detach_node}
use Rattle.side.proofs.Side.detach.Goals as goal

pub bounds-self-i : goal.bounds-self-i
bounds-self-i c = search in_array

pub bounds-self-i-2 : goal.bounds-self-i-2
bounds-self-i-2 c = search in_array

pub bounds : goal.bounds
bounds c = search in_array

pub returns : goal.returns
returns c = search detach_node

pub returns-in_default : goal.returns-in_default
returns-in_default c = search detach_none

pub invariant_of-self : goal.invariant_of-self
invariant_of-self c = search detach_kept
