-- `tables::Handles::fresh` meets its contract.
-- Assumes nothing.
use mathlib.Core.Path.{refl, ap}
use Rattle.tables.specs.Records.{handle_turn}
use Rattle.tables.proofs.Laws.{unused, no_handles}
use Rattle.tables.proofs.Handles.fresh.Goals as goal

pub invariant_of-result : goal.invariant_of-result
invariant_of-result c =
    record { used = unused handle_turn 16 c.fresh-2.result c.fresh-2.ensures.live c.fresh-2.ensures.spent c.fresh.result (ap handle_turn c.fresh.ensures) }

pub returns : goal.returns
returns c = no_handles _ c.fresh.result refl c.fresh-2.ensures.live c.fresh.ensures
