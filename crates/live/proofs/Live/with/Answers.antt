-- `live::Live::with` meets its contract: below 64 by the law of the word, and from 64 on neither the word nor the list changes.
-- Assumes nothing.
use mathlib.Core.Bool.{true}
use mathlib.Core.Path.{sym}
use native.Mathlib.Omega.{arith}
use lib.Seq.{set_out}
use Rattle.live.proofs.Words.{with_law, power}
use Rattle.live.specs.Bits.{live_of}
use Rattle.live.proofs.Laws.{length_live}
use Rattle.live.proofs.Live.with.Goals as goal

pub returns-then-n-lt64 : goal.returns-then-n-lt64
returns-then-n-lt64 c = let x = c.args in rw (power x.n (omega arith)) (with_law 64 x.self.0 x.n)

pub returns : goal.returns
returns c = let x = c.args in sym (set_out (live_of x.self) x.n true (omega (arith, length_live x.self)))
