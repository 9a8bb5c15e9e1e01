-- `side::Side::pend` meets its contract. In line; not in line.
-- Assumes nothing.
use Rattle.side.proofs.Numbers.{in_array}
use Rattle.side.proofs.Steps.{open_detached, pend_kept, pend_refresh, pend_join}
use borrow.Author.Rules.{rules}
use Rattle.side.proofs.Side.pend.Goals as goal

pub bounds-self-from : goal.bounds-self-from
bounds-self-from c = search in_array

pub join-requires : goal.join-requires
join-requires c = search (rules, open_detached)

pub returns : goal.returns
returns c = search pend_refresh

pub returns-in_default : goal.returns-in_default
returns-in_default c = search pend_join

pub invariant_of-self : goal.invariant_of-self
invariant_of-self c = search pend_kept
