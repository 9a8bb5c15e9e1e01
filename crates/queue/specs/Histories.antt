-- WHOLE HISTORIES: what follows from the promises for any list of calls after make or make-u (proofs/Histories.antt), and that a promise leaves
-- one answer (proofs/One.antt). Assumes nothing.
use Rattle.std.specs.Prelude.{◌≡◌, List, [], ◌∷◌, map}
use Rattle.model.specs.declared.Call.{Call}
use Rattle.model.specs.Calls.{Begin, begin, answers, after}
use Rattle.model.specs.Queue as model
use Rattle.model.specs.Promises.{Demand3}
use Rattle.queue.specs.declared.Queue.{Queue}
use Rattle.queue.specs.declared.Answer.{Answer}
use Rattle.queue.specs.Meaning.{queue_of, Sound}
use Rattle.queue.specs.Answers.{ans_of}
use Rattle.queue.specs.Promise.{Turned}

-- A RUN: calls made one after another, each on the queue that the one before gave, each with its promise kept. With the answers in order.
pub data Run : Queue → List Call → List Answer → Queue → Type 0 where
  done : {q : Queue} → Run q [] [] q
  then : {q q₁ q₂ : Queue} {c : Call} {a : Answer} {cs : List Call} {al : List Answer} → Turned q c a q₁ → Run q₁ cs al q₂ → Run q (c ∷ cs) (a ∷ al) q₂

-- what is promised of a run from make or make-u: the answers are the definition's, and so is the queue in the end; nothing is lost
-- of it; and it is sound, so that one more call may be made. (Each queue on the way is the end of a shorter run.)
pub record Kept (b : Begin) (cs : List Call) (al : List Answer) (q : Queue) : Type 0 where
  pub sound : Sound q
  pub answers : map ans_of al ≡ answers cs (begin b).next
  pub after : queue_of q ≡ after cs (begin b).next
  pub demand3 : Demand3 (queue_of q)

-- the same of every queue on the way, the first and the last included
pub data Always (P : model.Queue → Type 0) : (q : Queue) (cs : List Call) (al : List Answer) (q₂ : Queue) → Run q cs al q₂ → Type 0 where
  last : {q : Queue} → P (queue_of q) → Always P q [] [] q done
  more : {q q₁ q₂ : Queue} {c : Call} {a : Answer} {cs : List Call} {al : List Answer} {t : Turned q c a q₁} {r : Run q₁ cs al q₂}
      → P (queue_of q) → Always P q₁ cs al q₂ r → Always P q (c ∷ cs) (a ∷ al) q₂ (then t r)

-- ONE ANSWER: two results that a promise allows tell the same and mean the same
pub record Same (a : Answer) (q : Queue) (a' : Answer) (q' : Queue) : Type 0 where
  pub answer : ans_of a ≡ ans_of a'
  pub meaning : queue_of q ≡ queue_of q'
