-- ONE ANSWER: any two results that the promise of a call allows tell the same and mean the same, and so for both makes; after a refusal they are the
-- same record. Assumes nothing.
use Prim.Native.Nat.{ℕ, ◌≤◌}
use mathlib.Core.Path.{◌≡◌, sym, ap, ◌∙◌, subst}
use Rattle.model.specs.Queue as model
use Rattle.model.specs.declared.Call.{Call}
use Rattle.model.specs.Calls.{Begin}
use Rattle.queue.specs.declared.Queue.{Queue}
use Rattle.queue.specs.declared.Answer.{Answer}
use Rattle.queue.specs.Answers.{code_of}
use Rattle.queue.specs.Promise.{Turned, Made}
use Rattle.queue.specs.Histories.{Same}

pub one_turn : (q : Queue) (c : Call) (a a' : Answer) (q₁ q₁' : Queue) → Turned q c a q₁ → Turned q c a' q₁' → Same a q₁ a' q₁'
one_turn q c a a' q₁ q₁' t u = record { answer = t.answer ∙ sym u.answer; meaning = t.next ∙ sym u.next }

pub one_refusal : (q : Queue) (c : Call) (a a' : Answer) (q₁ q₁' : Queue) → Turned q c a q₁ → Turned q c a' q₁' → 20 ≤ code_of a.what → q₁ ≡ q₁'
one_refusal q c a a' q₁ q₁' t u h =
    t.same h ∙ sym (u.same (subst (λ (n : ℕ). 20 ≤ n) (ap (λ (x : model.Ans). x.code) (t.answer ∙ sym u.answer)) h))

pub one_make : (b : Begin) (a a' : Answer) (q q' : Queue) → Made b a q → Made b a' q' → Same a q a' q'
one_make b a a' q q' t u = record { answer = t.answer ∙ sym u.answer; meaning = t.next ∙ sym u.next }
