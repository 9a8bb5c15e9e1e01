-- `waitlist::set_prev` meets its contract. The closure computes the links with another `prev`.
-- Assumes nothing.
use Rattle.arena.specs.declared.Links.{Links}
use Rattle.std.proofs.Common.{rules}
use Rattle.waitlist.proofs.set_prev.Goals as goal

pub returns : goal.returns
returns c = c.change_links.ensures (λ (l : Links). record { prev = c.args.prev; next = l.next }) (λ l m p. search rules)
