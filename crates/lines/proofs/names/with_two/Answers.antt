-- `with_two` meets its contract: no row with two numbers has another name. Assumes nothing.
use Rattle.std.proofs.Common.{rules, [], ◌∷◌}
use Rattle.lines.specs.Rows.{table, place}
use Rattle.lines.proofs.Table.{unnamed}
use Rattle.lines.proofs.names.with_two.Goals as goal

pub returns-in_default : goal.returns-in_default
unfolding table
returns-in_default c = unnamed c.args.name.now (c.args.number ∷ c.args.other ∷ []) (search rules)

pub returns-in-text : goal.returns-in-text
unfolding table place
returns-in-text c = rw c.in-text.is

pub returns-in-send : goal.returns-in-send
unfolding table place
returns-in-send c = rw c.in-send.is
