-- `arena::Arena::new` meets its contract. A fresh arena is 32 blank cells.
-- Assumes nothing.
use Rattle.arena.proofs.Steps.{new_kept, new_fresh}
use Rattle.arena.proofs.Arena.new.Goals as goal

pub invariant_of-result : goal.invariant_of-result
invariant_of-result c = search new_kept

pub returns : goal.returns
returns c = new_fresh _
