-- `waitlist::WaitList::new` meets its contract. No node and no line.
-- Assumes nothing.
use Rattle.waitlist.proofs.Lines.{new_kept, new_fresh}
use Rattle.waitlist.proofs.WaitList.new.Goals as goal

pub invariant_of-result : goal.invariant_of-result
invariant_of-result c = search new_kept

pub returns : goal.returns
returns c = search new_fresh
