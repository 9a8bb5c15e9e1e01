-- `arena::Arena::insert_again` meets its contract. The chain's first slot is in reach and vacant, and is used again.
-- Assumes nothing.
use Rattle.arena.proofs.Steps.{head_small, head_vacant, reuse_kept, insert_reuse}
use Rattle.arena.proofs.Arena.insert_again.Goals as goal

pub bounds : goal.bounds
bounds c = search head_small

pub bounds-self-i : goal.bounds-self-i
bounds-self-i c = search head_small

pub unreachable-requires : goal.unreachable-requires
unreachable-requires c = search (head_vacant, c.in_default.not-Vacant)

pub bounds-self-i-2 : goal.bounds-self-i-2
bounds-self-i-2 c = search head_small

pub invariant_of-self : goal.invariant_of-self
invariant_of-self c = search reuse_kept

pub returns : goal.returns
returns c = search insert_reuse
