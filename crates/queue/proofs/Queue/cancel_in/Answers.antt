-- Assumes nothing.
use Rattle.queue.proofs.Receiving.{cancel_in_passed_on, cancel_in_ended}
use Rattle.queue.proofs.Queue.cancel_in.Goals as goal

pub returns-then-passes_on : goal.returns-then-passes_on
returns-then-passes_on c = search (cancel_in_passed_on, c.in-Ok.ensures)

pub returns-else-passes_on : goal.returns-else-passes_on
returns-else-passes_on c = search (cancel_in_ended, c.in-Ok.ensures)
