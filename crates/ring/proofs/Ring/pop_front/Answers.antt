-- `ring::Ring::pop_front` meets its contract: by whether the list has a value.
-- Assumes nothing.
use Rattle.ring.proofs.Laws.{none_values, pop_zeroed, pop_values}
use Rattle.ring.specs.Values.{values, sound_of, first, rest}
use Rattle.ring.proofs.Ring.pop_front.Goals as goal

pub returns-then-self-eq0 : goal.returns-then-self-eq0
unfolding first rest
returns-then-self-eq0 c = let none = none_values c.args.self c.if-self-eq0.true in (rw none, sound_of _, rw none)

pub invariant_of-self-clause-zeroed : goal.invariant_of-self-clause-zeroed
invariant_of-self-clause-zeroed c = rw c.wrapped.ensures (pop_zeroed c.args.self c.if-self-eq0.false)

pub returns : goal.returns
unfolding first rest values
returns c = let some = pop_values c.args.self c.if-self-eq0.false in (rw some, sound_of _, rw (some, c.wrapped.ensures))
