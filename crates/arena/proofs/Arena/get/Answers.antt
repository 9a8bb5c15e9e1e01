-- `arena::Arena::get` meets its contract. The cell that the lookup found says what stands in the slot.
-- Assumes nothing.
use mathlib.Core.Path.{sym, ap, ◌∙◌}
use Rattle.arena.specs.View.{holds}
use Rattle.arena.proofs.Steps.{at_missed, at_cell}
use Rattle.arena.proofs.Arena.get.Goals as goal

pub returns-in-Occupied : goal.returns-in-Occupied
returns-in-Occupied c =
    ap holds (sym c.in-Occupied.is) ∙ at_cell c.args.self c.args.id.0 c.from.result c.in_ok-node.field-0.now c.from.ensures c.in_ok-node.ensures.lookup.0 c.in_ok-node.ensures.lookup.1

pub returns-in_err-node : goal.returns-in_err-node
returns-in_err-node c = c.from_residual.ensures ∙ sym (at_missed c.args.self c.args.id.0 c.from.result c.from.ensures c.in_err-node.ensures.lookup.3)

pub returns-in-Vacant : goal.returns-in-Vacant
returns-in-Vacant c =
    ap holds (sym c.in-Vacant.is) ∙ at_cell c.args.self c.args.id.0 c.from.result c.in_ok-node.field-0.now c.from.ensures c.in_ok-node.ensures.lookup.0 c.in_ok-node.ensures.lookup.1
