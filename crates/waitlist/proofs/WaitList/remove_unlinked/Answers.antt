-- `waitlist::WaitList::remove_unlinked` meets its contract. Still in line; detached.
-- Assumes nothing.
use mathlib.Core.Path.{sym, ◌∙◌}
use Rattle.waitlist.proofs.Lines.{drop_refused, drop_kept, drop_done}
use Rattle.waitlist.proofs.WaitList.remove_unlinked.Goals as goal

pub returns-then-is_some : goal.returns-then-is_some
returns-then-is_some c = let e = sym c.is_some.ensures ∙ c.if-is_some.true in search drop_refused

pub invariant_of-self : goal.invariant_of-self
invariant_of-self c = let e = sym c.is_some.ensures ∙ c.if-is_some.false in search drop_kept

pub returns : goal.returns
returns c = let e = sym c.is_some.ensures ∙ c.if-is_some.false in search drop_done
