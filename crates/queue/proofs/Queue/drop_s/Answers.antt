-- Assumes nothing.
use mathlib.Core.Path.{refl, sym, ◌∙◌}
use Rattle.queue.proofs.Handing.{sender_leaves, drop_dead, drop_refused, drop_last, drop_other}
use Rattle.queue.proofs.Queue.drop_s.Goals as goal

pub returns-in-Err : goal.returns-in-Err
returns-in-Err c = drop_dead (sender_leaves c.args.self c.args.n) c.requires c.plain-answer.result _ refl c.in-Err.error (sym c.in-Err.is ∙ c.live.ensures) c.plain-answer.ensures

pub returns-in-Err-closed : goal.returns-in-Err-closed
returns-in-Err-closed c = drop_refused (sender_leaves c.args.self c.args.n) c.requires c.plain.result c.sender_busy-busy.result c.sender_busy-busy.ensures c.in-Err-closed.error c.in-Err-closed.ensures c.plain.ensures

pub returns-then-count-eq0 : goal.returns-then-count-eq0
returns-then-count-eq0 c =
    drop_last (sender_leaves c.args.self c.args.n) c.requires c.silence.result c.sender_busy-busy.result c.sender_busy-busy.ensures c.in-Ok-closed.left c.in-Ok-closed.ensures c.count.result c.count.ensures
    c.silence.new.self c.if-count-eq0.true c.silence.ensures

pub returns-else-count-eq0 : goal.returns-else-count-eq0
returns-else-count-eq0 c =
    drop_other (sender_leaves c.args.self c.args.n) c.requires c.plain-else-count-eq0.result c.sender_busy-busy.result c.sender_busy-busy.ensures c.in-Ok-closed.left c.in-Ok-closed.ensures c.count.result
    c.count.ensures c.if-count-eq0.false c.plain-else-count-eq0.ensures
