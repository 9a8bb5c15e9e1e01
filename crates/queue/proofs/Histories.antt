-- WHOLE HISTORIES: every run from make or make-u has the definition's answers and ends in the definition's queue, and nothing is lost all the way (`demand3`).
-- Assumes nothing.
use mathlib.Core.Path.{◌≡◌, refl, sym, ap, ap₂, ◌∙◌, subst}
use mathlib.Core.List.{List, ◌∷◌, map}
use Rattle.model.specs.declared.Call.{Call}
use Rattle.model.specs.Calls.{Begin, answers, after}
use Rattle.model.specs.Queue as model
use Rattle.model.specs.Promises.{Demand3}
use Rattle.model.proofs.Theorems.{demand3}
use Rattle.queue.specs.declared.Queue.{Queue}
use Rattle.queue.specs.declared.Answer.{Answer}
use Rattle.queue.specs.Meaning.{queue_of, Sound}
use Rattle.queue.specs.Answers.{ans_of}
use Rattle.queue.specs.Promise.{Made}
use Rattle.queue.specs.Histories.{Run, done, then, Kept, Always, last, more}

-- nothing is lost on any sound queue, since it came from make or make-u and calls
pub sound_demand3 : (q : Queue) → Sound q → Demand3 (queue_of q)
sound_demand3 q s = subst Demand3 (sym s.came.is) (demand3 s.came.begun s.came.calls)

run_answers : {q q₂ : Queue} {cs : List Call} {al : List Answer} → Run q cs al q₂ → map ans_of al ≡ answers cs (queue_of q)
unfolding answers
run_answers done = refl
run_answers (then {c = c} {cs = cs} t r) = ap₂ (λ (a : model.Ans) (l : List model.Ans). a ∷ l) t.answer (run_answers r ∙ ap (answers cs) t.next)

run_after : {q q₂ : Queue} {cs : List Call} {al : List Answer} → Run q cs al q₂ → queue_of q₂ ≡ after cs (queue_of q)
unfolding after
run_after done = refl
run_after (then {cs = cs} t r) = run_after r ∙ ap (after cs) t.next

run_sound : {q q₂ : Queue} {cs : List Call} {al : List Answer} → Sound q → Run q cs al q₂ → Sound q₂
run_sound s done = s
run_sound s (then t r) = run_sound t.sound r

run_always : {q q₂ : Queue} {cs : List Call} {al : List Answer} → Sound q → (r : Run q cs al q₂) → Always Demand3 q cs al q₂ r
run_always {q} s done = last (sound_demand3 q s)
run_always {q} s (then t r) = more (sound_demand3 q s) (run_always t.sound r)

-- THE THEOREM: make with any number or make-u, then any calls
pub history : (b : Begin) (a : Answer) (q q₂ : Queue) (cs : List Call) (al : List Answer) → Made b a q → Run q cs al q₂ → Kept b cs al q₂
history b a q q₂ cs al m r =
    record {
      sound = run_sound m.sound r;
      answers = run_answers r ∙ ap (answers cs) m.next;
      after = run_after r ∙ ap (after cs) m.next;
      demand3 = sound_demand3 q₂ (run_sound m.sound r);
    }

pub always : (b : Begin) (a : Answer) (q q₂ : Queue) (cs : List Call) (al : List Answer) → Made b a q → (r : Run q cs al q₂) → Always Demand3 q cs al q₂ r
always b a q q₂ cs al m r = run_always m.sound r
