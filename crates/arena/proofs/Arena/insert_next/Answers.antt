-- `arena::Arena::insert_next` meets its contract. Full; a slot never used.
-- Assumes nothing.
use Rattle.arena.proofs.Steps.{insert_full, next_kept, insert_next}
use Rattle.arena.proofs.Arena.insert_next.Goals as goal

pub returns-then-i-ge-SLOTS : goal.returns-then-i-ge-SLOTS
returns-then-i-ge-SLOTS c = let e = rw c.from-i.ensures at c.if-i-ge-SLOTS.true in search insert_full

pub invariant_of-self : goal.invariant_of-self
invariant_of-self c = search next_kept

pub returns : goal.returns
returns c = search insert_next
