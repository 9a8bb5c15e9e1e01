-- `with_one` meets its contract: no row with one number has another name. Assumes nothing.
use Rattle.std.proofs.Common.{rules, [], ◌∷◌}
use Rattle.lines.specs.Rows.{table, place}
use Rattle.lines.proofs.Table.{unnamed}
use Rattle.lines.proofs.names.with_one.Goals as goal

pub returns-in_default : goal.returns-in_default
unfolding table
returns-in_default c = unnamed c.args.name.now (c.args.number ∷ []) (search rules)

pub returns-in-text-4 : goal.returns-in-text-4
unfolding table place
returns-in-text-4 c = rw c.in-text-4.is

pub returns-in-text-6 : goal.returns-in-text-6
unfolding table place
returns-in-text-6 c = rw c.in-text-6.is

pub returns-in-text-8 : goal.returns-in-text-8
unfolding table place
returns-in-text-8 c = rw c.in-text-8.is
