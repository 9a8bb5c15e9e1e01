-- `live::Live::has` meets its contract: below 64 the shift finds the bit, and from 64 on the list has ended.
-- Assumes nothing.
use mathlib.Core.Bool.{false}
use mathlib.Core.Path.{sym, ◌∙◌}
use native.Mathlib.Omega.{arith}
use borrow.Author.Tests.{le-ltb}
use lib.ListN.{get_or-eq_default}
use Rattle.live.proofs.Words.{bit_at}
use Rattle.live.specs.Bits.{live_of}
use Rattle.live.proofs.Laws.{length_live}
use Rattle.live.proofs.Live.has.Goals as goal

pub returns-then-n-lt64 : goal.returns-then-n-lt64
returns-then-n-lt64 c = let x = c.args in sym (bit_at 64 x.self.0 x.n (omega arith))

pub returns-else-n-lt64 : goal.returns-else-n-lt64
returns-else-n-lt64 c =
    let x = c.args in
    le-ltb x.n 64 c.if-n-lt64.false ∙ sym (get_or-eq_default (live_of x.self) false (omega (arith, length_live x.self)))
