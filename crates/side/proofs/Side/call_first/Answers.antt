-- `side::Side::call_first` meets its contract. Nobody in line; the first.
-- Assumes nothing.
use Rattle.side.proofs.Calling.{first_small, first_turn, call_nobody, call_kept, call_one}
use borrow.Author.Rules.{rules}
use Rattle.side.proofs.Side.call_first.Goals as goal

pub number_at-number-requires : goal.number_at-number-requires
number_at-number-requires c = search (rules, first_small, first_turn)

pub returns-in_default : goal.returns-in_default
returns-in_default c = search call_nobody

pub returns : goal.returns
returns c = search call_one

pub invariant_of-self : goal.invariant_of-self
invariant_of-self c = search call_kept
