-- `tables::Permits::open` meets its contract.
-- Assumes nothing.
use mathlib.Core.Path.{refl}
use Rattle.tables.proofs.Laws.{permit_opened_used, permit_opened_wiped, permit_given}
use Rattle.tables.proofs.Permits.open.Goals as goal

pub invariant_of-self : goal.invariant_of-self
invariant_of-self c =
    let v = c.in-Some in
    record {
      used = permit_opened_used c.args.self v.field-0.place v.field-0.turn v.ensures.fits.0 v.ensures.lowest c.args.owner _ c.opened-self.ensures.live c.opened-self.ensures.spent;
      wiped = permit_opened_wiped c.args.self v.field-0.place v.field-0.turn v.ensures.fits.0 v.ensures.lowest c.args.owner c.opened-self.result c.opened-self.ensures.live;
    }

pub returns : goal.returns
returns c =
    let v = c.in-Some in
    permit_given c.args.self v.field-0.place v.field-0.turn v.ensures.fits.0 v.ensures.lowest c.args.owner _ c.opened-self.ensures.live _ c.number_at.ensures _ refl refl
