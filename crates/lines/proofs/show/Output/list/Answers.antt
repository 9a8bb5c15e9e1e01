-- `list` meets its contract. Assumes nothing.
use mathlib.Core.List.{◌∷◌}
use native.Mathlib.Omega.{arith}
use lib.ListN.{get_or}
use Rattle.std.specs.Fmt.{decimal}
use Rattle.lines.specs.Shown.{Adds}
use Rattle.lines.proofs.Showing.{adds_both, behind_more, behind_all}
use Rattle.lines.proofs.show.Output.list.Goals as goal

pub loop-other-preserved : goal.loop-other-preserved
loop-other-preserved c =
    let i = c.loop-other.other-index in
    let others = c.in-Some.others.now in
    let number = c.number-in-loop-other in
    let one : Adds c.loop-other.self number.new.self (44 ∷ decimal (get_or others i 0)) =
    rw c.from-in-loop-other.ensures at (adds_both c.byte-in-loop-other.ensures number.ensures.adds)
    in
    record {
      adds = rw (behind_more others i c.loop-other-test.true) (adds_both c.loop-other.invariant.adds one);
      room = omega (arith, number.ensures.upper_bound, c.byte-in-loop-other.ensures.put.ends);
    }

pub returns-clause-adds : goal.returns-clause-adds
returns-clause-adds c =
    let first : Adds c.args.self.now c.number.new.self (decimal c.in-Some.first.now) = rw c.from.ensures at c.number.ensures.adds in
    let rest = rw (behind_all c.in-Some.others.now c.loop-other.other-index c.loop-other-test.false) at c.loop-other.invariant.adds in
    rw c.in-Some.ensures.cases.0 (adds_both first rest)
