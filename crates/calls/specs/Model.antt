-- WHAT A LINE DOES: there is no queue yet, or the queue that the last good make began.
-- Everything is said by the definition's `make`, `make_u` and `step`. Assumes nothing.
use Rattle.std.specs.Prelude.{ℕ, ◌≡◌, [], eqb, if◌then◌else◌, Option, None, Some}
use Rattle.model.specs.Queue as model
use Rattle.model.specs.Calls.{make, make_u, step}
use Rattle.model.specs.declared.Call.{Call}
use Rattle.lines.specs.declared.Line.{Line}
use Rattle.lines.specs.Shown.{answered}

abbrev pub Held : Type 0
Held = Option model.Queue

-- 24, which no call of the queue answers
abbrev pub BAD_LINE : ℕ
BAD_LINE = 24

-- an answer with a code alone
abbrev pub bare : ℕ → model.Ans
bare code = answered code [] [] []

-- a good make begins a new queue; a refused one keeps the queue before it
abbrev pub begun : model.Result → Held → Held
begun r h = if eqb r.ans.code model.DONE then Some r.next else h

-- a call of the queue; without one it is refused
abbrev pub called : Call → Held → Held
called c None = None
called c (Some q) = Some (step c q).next

abbrev pub reply : Call → Held → model.Ans
reply c None = bare model.NO_HANDLE
reply c (Some q) = (step c q).ans

-- what there is after a line, and the answer to it
abbrev pub next_of : Held → Line → Held
next_of h Line.Bad = h
next_of h (Line.Make n) = begun (make n) h
next_of h Line.MakeU = begun make_u h
next_of h (Line.Call c) = called c h

abbrev pub reply_of : Held → Line → model.Ans
reply_of h Line.Bad = bare BAD_LINE
reply_of h (Line.Make n) = (make n).ans
reply_of h Line.MakeU = make_u.ans
reply_of h (Line.Call c) = reply c h

-- what a line does: what there is after it, and the answer to it
pub record Steps (h : Held) (l : Line) (h' : Held) (a : model.Ans) : Type 0 where
  pub next : h' ≡ next_of h l
  pub reply : a ≡ reply_of h l
