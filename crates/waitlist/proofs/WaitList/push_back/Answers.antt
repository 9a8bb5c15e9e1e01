-- `waitlist::WaitList::push_back` meets its contract. The new node is the last.
-- Assumes nothing.
use Rattle.waitlist.proofs.Lines.{push_kept, push_done}
use Rattle.waitlist.proofs.WaitList.push_back.Goals as goal

pub invariant_of-result : goal.invariant_of-result
invariant_of-result c = search push_kept

pub returns : goal.returns
returns c = search push_done
