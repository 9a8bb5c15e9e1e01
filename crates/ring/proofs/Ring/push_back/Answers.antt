-- `ring::Ring::push_back` meets its contract.
-- Assumes nothing.
use Rattle.ring.proofs.Laws.{push_fits, push_zeroed, push_values}
use Rattle.ring.specs.Values.{values, sound_of}
use Rattle.ring.proofs.Ring.push_back.Goals as goal

pub invariant_of-self-clause-fits : goal.invariant_of-self-clause-fits
invariant_of-self-clause-fits c = push_fits c.args.self c.args.v c.requires

pub invariant_of-self-clause-zeroed : goal.invariant_of-self-clause-zeroed
invariant_of-self-clause-zeroed c = rw c.wrapped.ensures (push_zeroed c.args.self c.args.v c.requires)

pub returns : goal.returns
unfolding values
returns c = (sound_of _, rw c.wrapped.ensures (push_values c.args.self c.args.v c.requires))
