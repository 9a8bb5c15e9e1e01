-- Assumes nothing.
use Rattle.queue.proofs.Receiving.{polled_pending, polled_gone, polled_value}
use Rattle.queue.proofs.Queue.polled_in.Goals as goal

pub returns-in-Err : goal.returns-in-Err
returns-in-Err c = search (polled_gone, c.in-Err.ensures)

pub returns-in-Ok-None : goal.returns-in-Ok-None
returns-in-Ok-None c = let h = rw c.in-Ok-None.field-0-is at c.in-Ok-None.ensures in search polled_pending

pub returns-in-Ok-Some : goal.returns-in-Ok-Some
returns-in-Ok-Some c = let h = rw c.in-Ok-Some.field-0-is at c.in-Ok-Some.ensures in search polled_value
