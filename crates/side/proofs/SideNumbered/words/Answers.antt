-- `side::Side` tells its live places and those used up by their words.
-- Assumes nothing.
use Rattle.side.proofs.Opens.{marked}
use Rattle.side.proofs.SideNumbered.words.Goals as goal

pub returns : goal.returns
returns c = search marked
