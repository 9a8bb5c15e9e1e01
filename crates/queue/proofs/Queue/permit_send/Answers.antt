-- Assumes nothing.
use Rattle.queue.proofs.Sending.{room_permit, permit_gone, permit_sent}
use Rattle.queue.proofs.Queue.permit_send.Goals as goal

pub push-requires : goal.push-requires
push-requires c = room_permit _ c.requires _ _ c.in-Ok.ensures _ c.count.ensures c.if-count-eq0.false

pub returns-then-count-eq0 : goal.returns-then-count-eq0
returns-then-count-eq0 c = search (permit_gone, c.in-Ok.ensures)

pub returns-else-count-eq0 : goal.returns-else-count-eq0
returns-else-count-eq0 c = search (permit_sent, c.in-Ok.ensures)
