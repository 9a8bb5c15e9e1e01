-- `tables::Handles` tells its live places and those used up by their words.
-- Assumes nothing.
use Rattle.tables.proofs.Laws.{handles_marked}
use Rattle.tables.proofs.HandlesNumbered.words.Goals as goal

pub returns : goal.returns
returns c = handles_marked c.args.self
