-- `waitlist::set_next` meets its contract. The closure computes the links with another `next`.
-- Assumes nothing.
use Rattle.arena.specs.declared.Links.{Links}
use Rattle.std.proofs.Common.{rules}
use Rattle.waitlist.proofs.set_next.Goals as goal

pub returns : goal.returns
returns c = c.change_links.ensures (λ (l : Links). record { prev = l.prev; next = c.args.next }) (λ l m p. search rules)
