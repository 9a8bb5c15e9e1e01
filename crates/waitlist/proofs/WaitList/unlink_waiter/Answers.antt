-- `waitlist::WaitList::unlink_waiter` meets its contract. Out of the line already; in it, and closed around it.
-- Assumes nothing.
use Rattle.waitlist.proofs.Lines.{unlink_none, unlink_kept, unlink_done}
use Rattle.waitlist.proofs.WaitList.unlink_waiter.Goals as goal

pub returns-in_default : goal.returns-in_default
returns-in_default c = search unlink_none

pub invariant_of-result : goal.invariant_of-result
invariant_of-result c = search unlink_kept

pub returns : goal.returns
returns c = search unlink_done
