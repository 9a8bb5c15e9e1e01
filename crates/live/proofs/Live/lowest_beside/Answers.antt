-- `live::Live::lowest_beside` meets its contract: the lowest clear bit of the two words together.
-- Assumes nothing.
use mathlib.Core.Path.{ap, ◌∙◌}
use native.Mathlib.Omega.{arith}
use lib.Bits.{bit_or, or_lt}
use Rattle.live.specs.Bits.{lowest_clear}
use Rattle.live.proofs.Words.{lowest_law, either_law}
use Rattle.live.proofs.Live.lowest_beside.Goals as goal

pub returns : goal.returns
returns c =
    let x = c.args in
    lowest_law 64 (bit_or x.self.0 x.other.0) (or_lt 64 x.self.0 x.other.0 (omega arith) (omega arith))
    ∙ ap lowest_clear (either_law 64 x.self.0 x.other.0)
