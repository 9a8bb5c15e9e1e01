-- `arena::Arena::set` meets its contract. The slot is vacant; it is occupied.
-- Assumes nothing.
use mathlib.Core.Path.{ap, ◌∙◌}
use Rattle.std.specs.Prelude.{not}
use Rattle.arena.proofs.Steps.{found_below, set_kept, set_done, set_not}
use Rattle.arena.proofs.Arena.set.Goals as goal

pub returns-then-is_none : goal.returns-then-is_none
returns-then-is_none c = let e = c.is_none.ensures ∙ ap not c.if-is_none.true in search set_not

pub bounds-self-from : goal.bounds-self-from
bounds-self-from c = let e = c.is_none.ensures ∙ ap not c.if-is_none.false in rw c.from.ensures (search found_below)

pub invariant_of-self : goal.invariant_of-self
invariant_of-self c = let e = c.is_none.ensures ∙ ap not c.if-is_none.false in rw c.from.ensures (search set_kept)

pub returns : goal.returns
returns c = let e = c.is_none.ensures ∙ ap not c.if-is_none.false in search set_done
