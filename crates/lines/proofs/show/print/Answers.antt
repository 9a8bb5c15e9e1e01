-- `print` meets its contract: its texts, one after the other. Assumes nothing.
use Rattle.std.proofs.Common.{rules}
use Rattle.std.specs.Fmt.{decimal}
use Rattle.std.specs.Prelude.{option_to_list}
use Rattle.lines.specs.Shown.{Adds, decs}
use Rattle.lines.proofs.Showing.{adds_both, shown_line, listed}
use Rattle.lines.proofs.show.print.Goals as goal

pub returns-clause-put : goal.returns-clause-put
returns-clause-put c =
    let a = c.args.answer in
    let code : Adds c.byte.new.self c.number-2.new.self (decimal a.code) = rw c.from.ensures at c.number-2.ensures.adds in
    let gone : Adds c.byte-4.new.self c.list-2.new.self (decs (option_to_list a.retired)) = rw (listed a.retired c.as_slice-retired.result.now c.as_slice-retired.ensures) at c.list-2.ensures.adds in
    let head = adds_both (adds_both (adds_both c.number.ensures.adds c.byte.ensures) code) c.byte-2.ensures in
    let field = adds_both (adds_both head c.field.ensures.adds) c.byte-3.ensures in
    let wakes = adds_both (adds_both field c.list.ensures.adds) c.byte-4.ensures in
    let all = rw (shown_line c.args.line a.code a.field.now a.wakes.now (option_to_list a.retired)) at (adds_both (adds_both wakes gone) c.byte-5.ensures) in
    search (rules, all.put)
