-- Assumes nothing.
use Rattle.queue.proofs.Sending.{slot_free, room_sent, try_send_refused, try_send_sent}
use Rattle.queue.proofs.Queue.try_send.Goals as goal

pub less-self-requires : goal.less-self-requires
less-self-requires c = slot_free _ _ _ _ c.in-Ok.ensures

pub push-requires : goal.push-requires
push-requires c = room_sent _ _ _ _ c.in-Ok.ensures c.requires

pub returns-in-Err : goal.returns-in-Err
returns-in-Err c = search (try_send_refused, c.in-Err.ensures)

pub returns-in-Ok : goal.returns-in-Ok
returns-in-Ok c = search (try_send_sent, c.in-Ok.ensures)
