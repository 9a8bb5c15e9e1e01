-- A NUMBER THAT IS NOT LIVE, on any queue: what is told of it is the definition's refusal, and such a call keeps the promise. Assumes nothing.
use Prim.Native.Nat.{ℕ}
use mathlib.Core.Path.{◌≡◌, refl, sym, ap, ◌∙◌}
use mathlib.Core.Bool.{Bool, true, false}
use mathlib.Core.List.{[]}
use Rattle.std.specs.Prelude.{if◌then◌else◌, Err}
use Rattle.model.specs.Table.{Table, was_closed}
use Rattle.model.specs.Queue as model
use Rattle.model.specs.declared.Call.{Call}
use Rattle.model.specs.Calls.{step}
use Rattle.queue.specs.declared.Queue.{Queue}
use Rattle.queue.specs.declared.Answer.{Answer}
use Rattle.queue.specs.Meaning.{queue_of, Sound}
use Rattle.queue.specs.Answers.{Told, code_of, field_of}
use Rattle.queue.specs.Promise.{Turned}
use Rattle.queue.specs.Steps.{Says, dead_by}
use Rattle.queue.proofs.Settled.{does, stays}

pub dead_replied : (closed : Bool) (q : model.Queue) → model.reply (code_of (Err (dead_by closed))) (field_of (Err (dead_by closed))) [] [] q ≡ model.refuse (if closed then model.CLOSED else model.NO_HANDLE) q
dead_replied true q = refl
dead_replied false q = refl

pub refuses : {A : Type 0} (q : Queue) (c : Call) (t : Table A) (n : ℕ) (what : Told) (a : Answer) → Sound q → what ≡ Err (dead_by (was_closed t n)) → Says what [] [] a
    → step c (queue_of q) ≡ model.refuse (model.dead t n) (queue_of q) → Turned q c a q
refuses q c t n what a s w u e =
    does q c a q s
    (stays (step c (queue_of q)) q what a u
    (ap (λ (x : Told). model.reply (code_of x) (field_of x) [] [] (queue_of q)) w
    ∙ (dead_replied (was_closed t n) (queue_of q) ∙ sym e)))
