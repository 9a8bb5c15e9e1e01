-- `ring::Ring::len` meets its contract.
-- Assumes nothing.
use mathlib.Core.Path.{sym}
use Rattle.ring.proofs.Laws.{length_values}
use Rattle.ring.proofs.Ring.len.Goals as goal

pub returns : goal.returns
returns c = sym (length_values c.args.self)
