-- `waitlist::WaitList::set_waiter` meets its contract. No node; a node, which keeps its links.
-- Assumes nothing.
use Rattle.waitlist.proofs.Lines.{refresh_none, refresh_kept, refresh_done}
use Rattle.waitlist.proofs.WaitList.set_waiter.Goals as goal

pub returns-in_default : goal.returns-in_default
returns-in_default c = search refresh_none

pub invariant_of-self : goal.invariant_of-self
invariant_of-self c = search refresh_kept

pub returns : goal.returns
returns c = search refresh_done
