-- Promises determine: any two answers to a line tell the same and leave the same queue to speak to, in meaning. (`begin`, `last` and `shown` answer by
-- equations; what `feed` puts and what the rest of its chunk will put is together one text.) Assumes nothing.
use mathlib.Core.Path.{◌≡◌, sym, ◌∙◌}
use Rattle.lines.specs.declared.Line.{Line}
use Rattle.model.specs.Queue.{Ans}
use Rattle.calls.specs.Model.{Held, Steps}

pub answer_one : (h : Held) (l : Line) {h' h'' : Held} {a b : Ans} → Steps h l h' a → Steps h l h'' b → (a ≡ b) × (h' ≡ h'')
answer_one h l x y = (x.reply ∙ sym y.reply, x.next ∙ sym y.next)
