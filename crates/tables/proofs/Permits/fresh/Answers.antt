-- `tables::Permits::fresh` meets its contract.
-- Assumes nothing.
use mathlib.Core.Path.{refl, ap}
use Rattle.live.specs.Bits.{live_of}
use Rattle.tables.specs.Records.{permit_turn}
use Rattle.tables.proofs.Laws.{unused, none_wiped, no_permits}
use Rattle.tables.proofs.Permits.fresh.Goals as goal

pub invariant_of-result : goal.invariant_of-result
invariant_of-result c =
    record {
      used = unused permit_turn 64 c.fresh.result c.fresh.ensures.live c.fresh.ensures.spent c.fresh-2.result (ap permit_turn c.fresh-2.ensures);
      wiped = none_wiped (live_of c.fresh.result.live) c.fresh-2.result c.fresh-2.ensures;
    }

pub returns : goal.returns
returns c = no_permits _ c.fresh-2.result refl c.fresh.ensures.live c.fresh-2.ensures
