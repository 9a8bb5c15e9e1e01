-- `side::Side::called` meets its contract: it counts as the model does.
-- Assumes nothing.
use Rattle.model.specs.Side as model
use Rattle.side.specs.Meaning.{Deed}
use Rattle.side.proofs.Side.called.Given as goal

abbrev pub ghost-count_where : goal.ghost-count_where
ghost-count_where a = λ (op : Deed). model.is_called op.stage
