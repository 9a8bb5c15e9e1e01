-- `tables::Permits` tells its live places and those used up by their words.
-- Assumes nothing.
use Rattle.tables.proofs.Laws.{permits_marked}
use Rattle.tables.proofs.PermitsNumbered.words.Goals as goal

pub returns : goal.returns
returns c = permits_marked c.args.self
