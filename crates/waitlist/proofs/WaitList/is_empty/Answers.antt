-- `waitlist::WaitList::is_empty` meets its contract. The head says it.
-- Assumes nothing.
use Rattle.waitlist.proofs.Lines.{head_none}
use Rattle.waitlist.proofs.WaitList.is_empty.Goals as goal

pub returns : goal.returns
returns c = search head_none
