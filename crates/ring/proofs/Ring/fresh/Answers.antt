-- `ring::Ring::fresh` meets its contract.
-- Assumes nothing.
use mathlib.Core.Path.{refl}
use Rattle.ring.proofs.Laws.{none_zeroed}
use Rattle.ring.specs.Values.{values, sound_of, tab}
use Rattle.ring.proofs.Ring.fresh.Goals as goal

pub invariant_of-result-clause-zeroed : goal.invariant_of-result-clause-zeroed
invariant_of-result-clause-zeroed c = none_zeroed

pub returns : goal.returns
unfolding values tab
returns c = (sound_of _, refl)
