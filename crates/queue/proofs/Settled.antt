-- EVERY EXIT OF A CALL: from an answer and a queue that are the definition's, the promise. Assumes nothing.
use Prim.Native.Nat.{ℕ, ◌≤◌}
use mathlib.Core.Path.{◌≡◌, refl, sym, ap, ap₂, ◌∙◌, subst}
use mathlib.Core.Bool.{Bool, true, false}
use mathlib.Core.List.{List, [], ◌∷◌, ◌++◌}
use Rattle.std.specs.Prelude.{if◌then◌else◌, Option, None, Some, Result, Ok, Err}
use native.Mathlib.Omega.{arith}
use borrow.Author.Tests.{eq-eqb, ne_eqb, eqb-false, ltb-true}
use lib.Dec.{eqb, ltb}
use Rattle.tables.specs.declared.Handles.{Handles}
use Rattle.tables.specs.declared.Permits.{Permits}
use Rattle.side.specs.declared.Side.{Side}
use Rattle.side.specs.Meaning.{Deed, side_of}
use Rattle.side.specs.declared.Woken.{Woken}
use Rattle.side.proofs.Kept.{sound_of}
use Rattle.model.specs.Table.{Table, lookup, live}
use Rattle.model.specs.Queue as model
use Rattle.model.specs.declared.Call.{Call}
use Rattle.model.specs.Calls.{begin, step, after}
use Rattle.model.proofs.TableLaws.{is_live_lem}
use Rattle.model.proofs.Kept.{Inv, Stored, none_reserved_lem}
use Rattle.model.proofs.Theorems.{begin_inv, after_inv}
use Rattle.queue.specs.declared.Queue.{Queue}
use Rattle.queue.specs.declared.Error.{Error}
use Rattle.queue.specs.declared.Success.TheVariants.{Done, Given}
use Rattle.queue.specs.declared.Answer.{Answer}
use Rattle.queue.specs.Meaning.{room_of, queue_of, Shaped, Sound}
use Rattle.queue.specs.Answers.{Told, code_of, field_of}
use Rattle.queue.specs.Promise.{Turned}
use Rattle.queue.specs.Steps.{Small, token_of, Says, told, number_told, Does, Gives, Moves, live_by}

-- ---- every queue's sides are sound
pub shaped_of : (q : Queue) → Shaped q
shaped_of q = record { outs = sound_of q.outs; ins = sound_of q.ins }

-- ---- one more call
after_more : (cs : List Call) (c : Call) (q : model.Queue) → after (cs ++ (c ∷ [])) q ≡ (step c (after cs q)).next
unfolding after
after_more [] c q = refl
after_more (x ∷ cs) c q = after_more cs c (step x q).next

-- the definition's invariant holds of every queue that came from make or make-u and calls
pub kept : (q : Queue) → Sound q → Inv 0 0 (queue_of q)
kept q s = subst (Inv 0 0) (sym s.came.is) (after_inv s.came.calls (begin s.came.begun).next (begin_inv s.came.begun))

-- ---- the definition's answer and queue keep the promise
pub does : (q : Queue) (c : Call) (a : Answer) (q' : Queue) → Sound q → Does (step c (queue_of q)) q a q' → Turned q c a q'
does q c a q' s d =
    record {
      sound = record {
        shaped = shaped_of q';
        came = record {
          begun = s.came.begun;
          calls = s.came.calls ++ (c ∷ []);
          is =
              ap (λ (m : model.Result). m.next) d.is
              ∙ (ap (λ (m : model.Queue). (step c m).next) s.came.is ∙ sym (after_more s.came.calls c (begin s.came.begun).next));
        };
      };
      answer = ap (λ (m : model.Result). m.ans) d.is;
      next = ap (λ (m : model.Result). m.next) d.is;
      same = d.same;
    }

-- ---- what was said, beside a queue: an answer that is no refusal; the queue as it came in
module _ (want : model.Result) (q : Queue) (what : Told) (a : Answer) where
  pub moves : (w t : List ℕ) (q' : Queue) → Says what w t a → ltb (code_of what) 20 ≡ true → told what w t q' ≡ want → Does want q a q'
  moves w t q' u b e =
      record {
        is = ap (λ (x : model.Ans). record { ans = x; next = queue_of q' }) u.is ∙ e;
        same = λ h. absurd (omega (arith, h, ap (λ (x : model.Ans). x.code) u.is, ltb-true (code_of what) 20 b));
      }

  pub stays : Says what [] [] a → told what [] [] q ≡ want → Does want q a q
  stays u e = record { is = ap (λ (x : model.Ans). record { ans = x; next = queue_of q }) u.is ∙ e; same = λ h. refl }

-- a step of a queue on the way ended the call, and it refuses nothing
module _ (q : Queue) (q₁ : Queue) (want : model.Result) (a : Answer) (q' : Queue) where
  pub on_the_way : ltb want.ans.code 20 ≡ true → Does want q₁ a q' → Does want q a q'
  on_the_way b d =
      record {
        is = d.is;
        same = λ h. absurd (omega (arith, h, ap (λ (x : model.Result). x.ans.code) d.is, ltb-true want.ans.code 20 b));
      }

-- ---- the number of a new record, or why there is none
pub given_does : (want : model.Result) (q : Queue) (number : Result ℕ Error) (a : Answer) (q' : Queue) → Gives want q number q' → Says (number_told number) [] [] a → Does want q a q'
given_does want q (Ok n) a q' g u = moves want q (Ok (Given n)) a [] [] q' u refl g.is
given_does want q (Err e) a q' g u =
    subst (λ (x : Queue). Does want q a x) (sym g.same)
    (stays want q (Err e) a u (subst (λ (x : Queue). told (Err e) [] [] x ≡ want) g.same g.is))

pub gives : (q : Queue) (c : Call) (number : Result ℕ Error) (a : Answer) (q' : Queue) → Sound q → Gives (step c (queue_of q)) q number q' → Says (number_told number) [] [] a → Turned q c a q'
gives q c number a q' s g u = does q c a q' s (given_does (step c (queue_of q)) q number a q' g u)

-- ---- a call that is decided first: what follows, or the error, which changes nothing
abbrev pub decided : {X : Type 0} → (X → model.Result) → Result X Error → model.Queue → model.Result
decided go (Ok x) q = go x
decided go (Err e) q = model.reply (code_of (Err e)) (field_of (Err e)) [] [] q

-- by a number that is live or not
pub need_is : {A : Type 0} (go : model.Result) (o : Option A) (closed : Bool) (q : model.Queue)
    → decided (λ (u : Unit {0}). go) (live_by o closed) q ≡ model.need_of o (if closed then model.CLOSED else model.NO_HANDLE) q (λ (a : A). go)
need_is go None true q = refl
need_is go None false q = refl
need_is go (Some a) closed q = refl

module _ {X : Type 0} (go : X → model.Result) (r : Result X Error) (q : Queue) (want : model.Result) (d : decided go r (queue_of q) ≡ want) where
  pub refuses : (e : Error) (a : Answer) → Err e ≡ r → Says (Err e) [] [] a → Does want q a q
  refuses e a h u = stays want q (Err e) a u (ap (λ (x : Result X Error). decided go x (queue_of q)) h ∙ d)

  pub follows : (x : X) → Ok x ≡ r → go x ≡ want
  follows x h = ap (λ (x : Result X Error). decided go x (queue_of q)) h ∙ d

-- ---- a move that ended a call with Done
pub done : (want : model.Moved) (q : Queue) (woken : Option Woken) (a : Answer) (q' : Queue) → Moves want q' woken → Says (Ok Done) (token_of woken) [] a → Does (model.done_by want) q a q'
done want q woken a q' m u =
    moves (model.done_by want) q (Ok Done) a (token_of woken) [] q' u refl
    (ap₂ (λ (w : List ℕ) (x : model.Queue). model.reply model.DONE [] w [] x) m.wakes m.next)

-- ---- the queue with one part replaced
abbrev pub with_available : Option ℕ → Queue → Queue
with_available x q = record { capacity = q.capacity; values = q.values; available = x; senders = q.senders; receivers = q.receivers; permits = q.permits; outs = q.outs; ins = q.ins }

abbrev pub with_senders : Handles → Queue → Queue
with_senders x q = record { capacity = q.capacity; values = q.values; available = q.available; senders = x; receivers = q.receivers; permits = q.permits; outs = q.outs; ins = q.ins }

abbrev pub with_receivers : Handles → Queue → Queue
with_receivers x q = record { capacity = q.capacity; values = q.values; available = q.available; senders = q.senders; receivers = x; permits = q.permits; outs = q.outs; ins = q.ins }

abbrev pub with_permits : Permits → Queue → Queue
with_permits x q = record { capacity = q.capacity; values = q.values; available = q.available; senders = q.senders; receivers = q.receivers; permits = x; outs = q.outs; ins = q.ins }

abbrev pub with_outs : Side → Queue → Queue
with_outs x q = record { capacity = q.capacity; values = q.values; available = q.available; senders = q.senders; receivers = q.receivers; permits = q.permits; outs = x; ins = q.ins }

abbrev pub with_ins : Side → Queue → Queue
with_ins x q = record { capacity = q.capacity; values = q.values; available = q.available; senders = q.senders; receivers = q.receivers; permits = q.permits; outs = q.outs; ins = x }

-- ---- what a count and a test tell
module _ {A : Type 0} (t : Table A) (n : ℕ) (e : n ≡ live t) where
  pub none_left : n ≡ 0 → eqb (live t) 0 ≡ true
  none_left z = eq-eqb (live t) 0 (sym e ∙ z)

  pub some_left : (n ≡ 0 → ⊥) → eqb (live t) 0 ≡ false
  some_left z = ne_eqb (live t) 0 (λ p. z (e ∙ p))

-- ---- the free room of a sound queue
pub free_small : (q : Queue) → Sound q → Small q.available
free_small q s = let i = kept q s in by q.available i.account.left q.capacity i.account.stored (omega (arith, i.account.fits, i.sizes.capacity))
  where
    by : (f : Option ℕ) (left c : ℕ) → Stored (room_of f) left c → left ≤ 64 → Small f
    by None left c e h = tt
    by (Some n) left c e h = omega (arith, e, h)

-- where slots are counted and one is free, room is left
pub slot_left : (q : Queue) (s : Sound q) → model.is_unbounded (queue_of q) ≡ false → model.no_free (queue_of q) ≡ false → 1 ≤ (kept q s).account.left
slot_left q s = by q.available (kept q s).account.left q.capacity (kept q s).account.stored
  where
    by : (f : Option ℕ) (left c : ℕ) → Stored (room_of f) left c → model.uncounted (room_of f) ≡ false → model.none_of (room_of f) ≡ false → 1 ≤ left
    by None left c e u h = let z : ◌≡◌ {A = ℕ} 0 1 = cc in absurd (omega arith)
    by (Some n) left c e u h = let z = eqb-false n 0 h in omega arith

-- on an unbounded queue no operation of a sender is open
pub reserved_counted : (q : Queue) → Sound q → (n : ℕ) (op : Deed) → lookup (side_of q.outs).ops n ≡ Some op → model.is_unbounded (queue_of q) ≡ false
reserved_counted q s n op f = by (room_of q.available) refl
  where
    by : (r : model.Room) → room_of q.available ≡ r → model.uncounted r ≡ false
    by (model.slots m) e = refl
    by model.unbounded e = absurd (omega (arith, (none_reserved_lem (queue_of q) (kept q s).s_own e).outs (λ o. 1), is_live_lem (side_of q.outs).ops n op f))
