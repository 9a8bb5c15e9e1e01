-- `side::Side::open` meets its contract. No place is left; one is.
-- Assumes nothing.
use Rattle.side.proofs.Opens.{open_kept, open_given, open_full}
use Rattle.side.proofs.Side.open.Goals as goal

pub invariant_of-self : goal.invariant_of-self
invariant_of-self c =
    let v = c.in-Some in
    record { sound = open_kept c.args.self c.args.owner c.args.cargo v.field-0.place v.field-0.turn v.ensures.fits.0 v.ensures.lowest _ _ c.idle.ensures c.opened-self.ensures.live c.opened-self.ensures.spent }

pub returns : goal.returns
returns c =
    let v = c.in-Some in
    open_given c.args.self c.args.owner c.args.cargo v.field-0.place v.field-0.turn v.ensures.fits.0 v.ensures.lowest _ _ _ _ c.idle.ensures c.opened-self.ensures.live c.opened-self.ensures.spent c.number_at.ensures

pub returns-in_default : goal.returns-in_default
returns-in_default c = open_full c.args.self c.args.owner c.args.cargo c.in_default.ensures.lowest
