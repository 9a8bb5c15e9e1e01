-- Assumes nothing.
use Rattle.queue.proofs.Receiving.{try_recv_refused, try_recv_took}
use Rattle.queue.proofs.Queue.try_recv.Goals as goal

pub returns-in-Err : goal.returns-in-Err
returns-in-Err c = search (try_recv_refused, c.in-Err.ensures)

pub returns-in-Ok : goal.returns-in-Ok
returns-in-Ok c = search (try_recv_took, c.in-Ok.ensures)
