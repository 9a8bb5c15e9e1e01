-- `side::Side::join` meets its contract.
-- Assumes nothing.
use Rattle.side.proofs.Numbers.{in_array}
use Rattle.side.proofs.Steps.{is_byte, join_room, join_kept, join_done}
use borrow.Author.Rules.{rules}
use Rattle.side.proofs.Side.join.Goals as goal

pub bounds-self-place : goal.bounds-self-place
bounds-self-place c = search in_array

pub overflow_cast-place : goal.overflow_cast-place
overflow_cast-place c = search is_byte

pub push_back-put-requires : goal.push_back-put-requires
push_back-put-requires c = search (rules, join_room)

pub returns : goal.returns
returns c = search join_done

pub invariant_of-self : goal.invariant_of-self
invariant_of-self c = search join_kept
