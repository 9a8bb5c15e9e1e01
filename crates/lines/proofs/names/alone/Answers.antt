-- `alone` meets its contract: no row without numbers has another name. Assumes nothing.
use Rattle.std.proofs.Common.{rules, []}
use Rattle.lines.specs.Rows.{table}
use Rattle.lines.proofs.Table.{unnamed}
use Rattle.lines.proofs.names.alone.Goals as goal

pub returns-in_default : goal.returns-in_default
unfolding table
returns-in_default c = unnamed c.args.name.now [] (search rules)
