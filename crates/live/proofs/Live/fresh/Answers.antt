-- `live::Live::fresh` meets its contract: the bits of 0 compute.
-- Assumes nothing.
use mathlib.Core.Path.{refl}
use Rattle.live.specs.Bits.{bits_of, none_live}
use Rattle.live.proofs.Live.fresh.Goals as goal

pub returns : goal.returns
unfolding bits_of none_live
returns c = refl
