-- `arena::Arena::remove` meets its contract. The slot is vacant; it is occupied, and so the count is not 0.
-- Assumes nothing.
use mathlib.Core.Path.{ap, ◌∙◌}
use Rattle.std.specs.Prelude.{not}
use Rattle.arena.proofs.Steps.{found_below, len_pos, remove_kept, remove_done, remove_not}
use Rattle.arena.proofs.Arena.remove.Goals as goal

pub returns-then-is_none : goal.returns-then-is_none
returns-then-is_none c = let e = c.is_none.ensures ∙ ap not c.if-is_none.true in search remove_not

pub bounds-self-from : goal.bounds-self-from
bounds-self-from c = let e = c.is_none.ensures ∙ ap not c.if-is_none.false in rw c.from.ensures (search found_below)

pub overflow_sub-self : goal.overflow_sub-self
overflow_sub-self c = let e = c.is_none.ensures ∙ ap not c.if-is_none.false in search len_pos

pub invariant_of-self : goal.invariant_of-self
invariant_of-self c = let e = c.is_none.ensures ∙ ap not c.if-is_none.false in search remove_kept

pub returns : goal.returns
returns c = let e = c.is_none.ensures ∙ ap not c.if-is_none.false in search remove_done
