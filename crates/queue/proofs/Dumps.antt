-- MEMORY DUMPS: after make or make-u and any calls, the ring shows the values that the definition has queued, and zero elsewhere.
-- Assumes nothing.
use mathlib.Core.Path.{sym, subst}
use mathlib.Core.List.{List}
use native.Mathlib.Omega.{arith}
use Rattle.ring.specs.declared.Ring.{Ring}
use Rattle.ring.specs.Values as ring
use Rattle.ring.proofs.Laws.{length_values, get_d_values}
use Rattle.model.specs.declared.Call.{Call}
use Rattle.model.specs.Calls.{Begin, begin, after}
use Rattle.model.specs.Queue as model
use Rattle.queue.specs.declared.Queue.{Queue}
use Rattle.queue.specs.declared.Answer.{Answer}
use Rattle.queue.specs.Promise.{Made}
use Rattle.queue.specs.Histories.{Run}
use Rattle.queue.specs.Dumps.{Shows}
use Rattle.queue.proofs.Histories.{history}

ring_shows : (r : Ring) → Shows (ring.values r) r
ring_shows r =
    record {
      counted = sym (length_values r);
      queued = λ k b. let n = length_values r in sym (get_d_values r k (omega arith));
      others = r.zeroed;
    }

-- THE THEOREM: make with any number or make-u, then any calls
pub dump : (b : Begin) (a : Answer) (q q₂ : Queue) (cs : List Call) (al : List Answer) → Made b a q → Run q cs al q₂
    → Shows (after cs (begin b).next).values q₂.values
dump b a q q₂ cs al m r =
    let k = history b a q q₂ cs al m r in
    subst (λ (x : model.Queue). Shows x.values q₂.values) k.after (ring_shows q₂.values)
