-- `tables::Handles::open` meets its contract.
-- Assumes nothing.
use mathlib.Core.Path.{refl}
use Rattle.tables.proofs.Laws.{handle_opened_used, handle_given}
use Rattle.tables.proofs.Handles.open.Goals as goal

pub invariant_of-self : goal.invariant_of-self
invariant_of-self c =
    let v = c.in-Some in
    record { used = handle_opened_used c.args.self v.field-0.place v.field-0.turn v.ensures.fits.0 v.ensures.lowest _ c.opened-self.ensures.live c.opened-self.ensures.spent }

pub returns : goal.returns
returns c =
    let v = c.in-Some in
    handle_given c.args.self v.field-0.place v.field-0.turn v.ensures.fits.0 v.ensures.lowest _ c.opened-self.ensures.live _ c.number_at.ensures _ refl refl
