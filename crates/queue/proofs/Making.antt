-- What make and make_u come to. Assumes nothing.
use Rattle.std.specs.Prelude.{if◌then◌else◌, None, Some, Err}
use Prim.Native.Nat.{ℕ, ◌<◌, ◌≤◌}
use mathlib.Core.Path.{◌≡◌, refl, sym, ap, ap₂, ◌∙◌}
use mathlib.Core.Bool.{Bool, true, false, ◌&&◌}
use mathlib.Core.List.{[]}
use mathlib.Core.Logic.{◌⊎◌, ⊎_elim}
use native.Mathlib.Omega.{arith}
use borrow.Author.Tests.{le-leb, lt-leb}
use lib.Dec.{leb}
use Rattle.tables.specs.declared.Handles.{Handles}
use Rattle.tables.specs.Calls.{NoHandles}
use Rattle.model.specs.Table.{Table, blank}
use Rattle.model.specs.Queue as model
use Rattle.model.specs.Calls.{make, make_u, Begin, by_make, by_make_u, begin, after}
use Rattle.queue.specs.declared.Queue.{Queue}
use Rattle.queue.specs.declared.Error.TheVariants.{BadCapacity}
use Rattle.queue.specs.declared.Answer.{Answer}
use Rattle.queue.specs.declared.Turn.{Turn}
use Rattle.queue.specs.Answers.{result_of}
use Rattle.queue.specs.Promise.{Made}
use Rattle.queue.specs.Steps.{Says, Blank, Begun}
use Rattle.queue.proofs.Settled.{shaped_of}

made : (b : Begin) (a : Answer) (q : Queue) → result_of a q ≡ begin b → Made b a q
unfolding after
made b a q e =
    record {
      sound = record { shaped = shaped_of q; came = record { begun = b; calls = []; is = ap (λ (m : model.Result). m.next) e } };
      answer = ap (λ (m : model.Result). m.ans) e;
      next = ap (λ (m : model.Result). m.next) e;
    }

pub made_uncounted : (r : Turn) → Begun 64 None r → Made by_make_u r.answer r.queue
unfolding make_u
made_uncounted r k = made by_make_u r.answer r.queue k.is

module _ (c : ℕ) where
  by_bounds : (b : Bool) → (leb 1 c && leb c 64) ≡ b → (if b then model.reply model.DONE [] [] [] (model.fresh c (model.slots c)) else model.refuse model.BAD_CAPACITY model.nothing) ≡ make c
  unfolding make
  by_bounds b e = sym (ap (λ (x : Bool). if x then model.reply model.DONE [] [] [] (model.fresh c (model.slots c)) else model.refuse model.BAD_CAPACITY model.nothing) e)

  and_false : (x : Bool) → (x && false) ≡ false
  and_false true = refl
  and_false false = refl

  out_of_bounds : (c ≡ 0) ⊎ ((c ≡ 0 → ⊥) × (64 < c)) → (leb 1 c && leb c 64) ≡ false
  out_of_bounds = ⊎_elim (λ z. ap (λ (x : ℕ). leb 1 x && leb x 64) z) (λ z. ap (λ (x : Bool). leb 1 c && x) (lt-leb c 64 z.1) ∙ and_false (leb 1 c))

  pub made_none : (none : Handles) (a : Answer) (q : Queue) → (c ≡ 0) ⊎ ((c ≡ 0 → ⊥) × (64 < c)) → NoHandles none → Blank 0 (Some 0) none q → Says (Err BadCapacity) [] [] a → Made (by_make c) a q
  made_none none a q z n k u =
      made (by_make c) a q
      (ap₂ (λ (x : model.Ans) (y : model.Queue). record { ans = x; next = y }) u.is (k.is ∙ ap nothing_with n.handles) ∙ by_bounds false (out_of_bounds z))
    where
      nothing_with : Table model.Mark → model.Queue
      nothing_with t = record { cap = 0; values = []; free = model.slots 0; senders = t; receivers = t; outs = record { ops = blank 32; line = [] }; ins = record { ops = blank 32; line = [] }; permits = blank 64 }

  pub made_good : (r : Turn) → (c ≡ 0 → ⊥) → c ≤ 64 → Begun c (Some c) r → Made (by_make c) r.answer r.queue
  made_good r z y k = made (by_make c) r.answer r.queue (k.is ∙ by_bounds true (ap₂ ◌&&◌ (le-leb 1 c (omega arith)) (le-leb c 64 y)))
