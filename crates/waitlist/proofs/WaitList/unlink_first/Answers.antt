-- `waitlist::WaitList::unlink_first` meets its contract. The head; nobody.
-- Assumes nothing.
use Rattle.waitlist.proofs.Lines.{first_none, first_done}
use Rattle.waitlist.proofs.WaitList.unlink_first.Goals as goal

pub returns-in-Some : goal.returns-in-Some
returns-in-Some c = search first_done

pub returns-in-None : goal.returns-in-None
returns-in-None c = search first_none
