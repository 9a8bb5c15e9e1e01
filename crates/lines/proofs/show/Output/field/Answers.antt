-- `field` meets its contract: the numbers, or the first count, `,-,` and the others. Assumes nothing.
use Rattle.std.specs.Fmt.{decimal}
use lib.ListN.{get_or}
use Rattle.lines.specs.Shown.{Adds}
use Rattle.lines.proofs.Showing.{adds_both, field_dashed}
use Rattle.lines.proofs.show.Output.field.Goals as goal

pub returns-then-field-eq5-clause-adds : goal.returns-then-field-eq5-clause-adds
returns-then-field-eq5-clause-adds c =
    let first : Adds c.args.self.now c.number.new.self (decimal (get_or c.args.field.now 0 0)) = rw c.from.ensures at c.number.ensures.adds in
    rw (field_dashed c.args.code c.args.field.now c.if-code-eq-STATUS.true c.if-field-eq5.true) (adds_both (adds_both first c.bytes.ensures) c.list.ensures.adds)
