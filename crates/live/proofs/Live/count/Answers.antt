-- `live::Live::count` meets its contract.
-- Assumes nothing.
use native.Mathlib.Omega.{arith}
use Rattle.live.proofs.Words.{count_law}
use Rattle.live.proofs.Live.count.Goals as goal

pub returns : goal.returns
returns c = count_law 64 c.args.self.0 (omega arith)
