-- Assumes nothing.
use Rattle.std.proofs.Common.{rules}
use Rattle.queue.proofs.Sending.{still_open}
use Rattle.queue.proofs.Queue.complete.Goals as goal

pub end-self-requires : goal.end-self-requires
end-self-requires c = search (rules, still_open)
