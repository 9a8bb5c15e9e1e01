-- `side::Side::owned_by` meets its contract: it counts as the model does.
-- Assumes nothing.
use Rattle.model.specs.Table.{same}
use Rattle.side.specs.Meaning.{Deed}
use Rattle.side.proofs.Side.owned_by.Given as goal

abbrev pub ghost-count_where : goal.ghost-count_where
ghost-count_where a = λ (op : Deed). same a.passes.0.now op.owner
