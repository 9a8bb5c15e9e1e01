-- THE PROMISES. Every call of the queue has the promise `Turned`: the method of its name, the dispatcher, and the entry that a queue is lent
-- to. `make` and `make_u` have `Made`. No call asks for more than `Sound`, which both makes and every call give. Assumes nothing.
use Rattle.std.specs.Prelude.{◌≤◌, ◌≡◌}
use Rattle.model.specs.declared.Call.{Call}
use Rattle.model.specs.Calls.{Begin, begin, step}
use Rattle.queue.specs.declared.Queue.{Queue}
use Rattle.queue.specs.declared.Answer.{Answer}
use Rattle.queue.specs.Meaning.{queue_of, Sound}
use Rattle.queue.specs.Answers.{code_of, ans_of}

-- the call c on the queue q gives the answer a and the queue q':
--   sound   q' is again a queue that calls may be made on
--   answer  code, field, wakes and retired token are the definition's
--   next    q' means what the definition says
--   same    after a refusal q' is q itself, field by field
pub record Turned (q : Queue) (c : Call) (a : Answer) (q' : Queue) : Type 0 where
  pub sound : Sound q'
  pub answer : ans_of a ≡ (step c (queue_of q)).ans
  pub next : queue_of q' ≡ (step c (queue_of q)).next
  pub same : 20 ≤ code_of a.what → q' ≡ q

-- make with a capacity, which may be any number, or make-u gives the answer a and the queue q
pub record Made (b : Begin) (a : Answer) (q : Queue) : Type 0 where
  pub sound : Sound q
  pub answer : ans_of a ≡ (begin b).ans
  pub next : queue_of q ≡ (begin b).next
