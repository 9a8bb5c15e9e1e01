-- What receivers do. Assumes nothing.
use Prim.Native.Nat.{ℕ}
use mathlib.Core.Path.{◌≡◌, refl, sym, ap, ap₂, ◌∙◌, subst}
use mathlib.Core.Bool.{Bool, true, false}
use mathlib.Core.List.{List, [], ◌∷◌}
use Rattle.std.specs.Prelude.{if◌then◌else◌, Option, None, Some, Result, Ok, Err, option_map, option_to_list}
use Rattle.std.specs.Result.{result_ok}
use native.Mathlib.Omega.{arith}
use Rattle.ring.specs.Values as ring
use Rattle.side.specs.declared.Side.{Side}
use Rattle.side.specs.declared.Entry.{Entry}
use Rattle.side.specs.declared.Woken.{Woken}
use Rattle.side.specs.declared.Pended.{Pended}
use Rattle.side.specs.Meaning.{Deed, side_of, stage_of, deed_of}
use Rattle.side.specs.Calls.{Ends, Pends}
use Rattle.model.specs.Table.{lookup, was_closed}
use Rattle.model.specs.Side as side
use Rattle.model.specs.Queue as model
use Rattle.model.specs.declared.Call.TheVariants.{TryRecv, PollIn, CancelIn}
use Rattle.model.specs.Calls.{step, try_recv}
use Rattle.model.proofs.Leaves.{poll_in_dead, poll_in_value, poll_in_gone, poll_in_pending, cancel_in_passed, cancel_in_other}
use Rattle.queue.specs.declared.Queue.{Queue}
use Rattle.queue.specs.declared.Error.{Error}
use Rattle.queue.specs.declared.Error.TheVariants.{Disconnected}
use Rattle.queue.specs.declared.Success.TheVariants.{Done, Value, Pending}
use Rattle.queue.specs.declared.Answer.{Answer}
use Rattle.queue.specs.Meaning.{queue_of, Sound}
use Rattle.queue.specs.Answers.{Told}
use Rattle.queue.specs.Promise.{Turned}
use Rattle.queue.specs.Steps.{token_of, Says, Does, Moves, live_by, Finds, takable, takable_of, receivable, receivable_of, popped, passes}
use Rattle.queue.proofs.Refused.{refuses as refuses_dead}
use Rattle.queue.proofs.Settled.{does, moves, decided, refuses, follows, done, with_ins}

-- ---- try_recv
-- what follows where a value is told
abbrev took : model.Queue → ℕ → model.Result
took q v = let mv = popped q in model.reply model.VALUE (v ∷ []) mv.wakes [] mv.next

abbrev first_by : model.Queue → List ℕ → Bool → model.Result
first_by q [] gone = if gone then model.reply model.DISCONNECTED [] [] [] q else model.reply model.EMPTY [] [] [] q
first_by q (v ∷ l) gone = let mv = model.release (model.set_values l q) in model.reply model.VALUE (v ∷ []) mv.wakes [] mv.next

first_is : (q : model.Queue) (l : List ℕ) → first_by q l (model.no_sender q) ≡ model.take_first l [] (model.reply model.EMPTY [] [] [] q) q
first_is q [] = refl
first_is q (v ∷ l) = refl

try_recv_is : (r : ℕ) (q : model.Queue) → decided (took q) (receivable r q) q ≡ step (TryRecv r) q
unfolding step try_recv ring.rest
try_recv_is r q =
    by (lookup q.receivers r) (was_closed q.receivers r) q.values (model.no_sender q)
    ∙ ap (λ (x : model.Result). model.need_of (lookup q.receivers r) (model.dead q.receivers r) q (λ _. x)) (first_is q q.values)
  where
    by : (o : Option model.Mark) (closed : Bool) (l : List ℕ) (gone : Bool)
        → decided (λ v. let mv = model.release (model.set_values (ring.rest l) q) in model.reply model.VALUE (v ∷ []) mv.wakes [] mv.next) (receivable_of (live_by o closed) (takable_of l gone)) q
        ≡ model.need_of o (if closed then model.CLOSED else model.NO_HANDLE) q (λ _. first_by q l gone)
    by None true l gone = refl
    by None false l gone = refl
    by (Some a) closed [] true = refl
    by (Some a) closed [] false = refl
    by (Some a) closed (v ∷ l) gone = refl

-- what is told of the value that is taken, or of why there is none
abbrev pub value_told : Result ℕ Error → Told
value_told (Ok v) = Ok (Value v)
value_told (Err e) = Err e

module _ (q : Queue) (snd : Sound q) (r : ℕ) (a : Answer) where
  pub try_recv_refused : (e : Error) → Err e ≡ receivable r (queue_of q) → Says (Err e) [] [] a → Turned q (TryRecv r) a q
  try_recv_refused e h u = does q (TryRecv r) a q snd (refuses (took (queue_of q)) (receivable r (queue_of q)) q _ (try_recv_is r (queue_of q)) e a h u)

  pub try_recv_took : (v : ℕ) (woken : Option Woken) (q' : Queue) → Ok v ≡ receivable r (queue_of q) → Moves (popped (queue_of q)) q' woken → Says (Ok (Value v)) (token_of woken) [] a → Turned q (TryRecv r) a q'
  try_recv_took v woken q' h m u =
      does q (TryRecv r) a q' snd
      (moves (step (TryRecv r) (queue_of q)) q (Ok (Value v)) a (token_of woken) [] q' u refl
      (ap₂ (λ (w : List ℕ) (x : model.Queue). model.reply model.VALUE (v ∷ []) w [] x) m.wakes m.next ∙ follows (took (queue_of q)) (receivable r (queue_of q)) q _ (try_recv_is r (queue_of q)) v h))

  -- where it takes nothing it answers what it is told, and changes nothing
  pub took_nothing : (x : Result ℕ Error) → x ≡ receivable r (queue_of q) → (woken : Option Woken) → Says (value_told x) (token_of woken) [] a → (q' : Queue)
      → ((v : ℕ) → x ≡ Ok v → ⊥) → q' ≡ q → woken ≡ None → Turned q (TryRecv r) a q'
  took_nothing (Ok v) h woken u q' n f w = absurd (n v refl)
  took_nothing (Err e) h woken u q' n f w = rw f (try_recv_refused e h (rw w at u))

-- ---- what is told of the values
told_value : (l : List ℕ) (gone : Bool) (v : ℕ) → Ok (Some v) ≡ takable_of l gone → l ≡ v ∷ ring.rest l
unfolding ring.rest
told_value [] true v e = let z : ◌≡◌ {A = ℕ} 0 1 = cc in absurd (omega arith)
told_value [] false v e = let z : ◌≡◌ {A = ℕ} 0 1 = cc in absurd (omega arith)
told_value (x ∷ l) gone v e = let z : v ≡ x = cc in ap (λ (y : ℕ). y ∷ l) (sym z)

told_empty : (l : List ℕ) (gone : Bool) → Ok None ≡ takable_of l gone → (l ≡ []) × (gone ≡ false)
told_empty [] true e = let z : ◌≡◌ {A = ℕ} 0 1 = cc in absurd (omega arith)
told_empty [] false e = (refl, refl)
told_empty (x ∷ l) gone e = let z : ◌≡◌ {A = ℕ} 0 1 = cc in absurd (omega arith)

told_gone : (l : List ℕ) (gone : Bool) (e : Error) → Err e ≡ takable_of l gone → (l ≡ []) × (gone ≡ true) × (Disconnected None ≡ e)
told_gone [] true e h = (refl, refl, cc)
told_gone [] false e h = let z : ◌≡◌ {A = ℕ} 0 1 = cc in absurd (omega arith)
told_gone (x ∷ l) gone e h = let z : ◌≡◌ {A = ℕ} 0 1 = cc in absurd (omega arith)

-- ---- poll_in
module _ (q : Queue) (n t : ℕ) (op : Entry) (f : Finds q.ins n (Ok op)) (a : Answer) where
  pub polled_pending : (o : Pended) → Ok None ≡ takable (queue_of q) → Pends q.ins n t o → Says (Ok Pending) [] (option_to_list o.retired) a → Does (step (PollIn n t) (queue_of q)) q a (with_ins o.side q)
  unfolding step
  polled_pending o h k u =
      let g = told_empty (ring.values q.values) (model.no_sender (queue_of q)) h in
      moves (step (PollIn n t) (queue_of q)) q (Ok Pending) a [] (option_to_list o.retired) (with_ins o.side q) u refl
      (ap₂ (λ (l : List ℕ) (i : side.Side model.Job). model.reply model.PENDING [] [] l (model.set_ins i (queue_of q))) (k.retired (deed_of op) f) (k.side (deed_of op) f)
      ∙ sym (poll_in_pending n t (queue_of q) (deed_of op) f g.0 g.1))

  module _ (o : Side) (k : Ends q.ins n o) (kept : Option ℕ) (y : option_to_list kept ≡ side.kept (stage_of op.stage)) where
    pub polled_gone : (e : Error) → Err e ≡ takable (queue_of q) → Says (Err e) [] (option_to_list kept) a → Does (step (PollIn n t) (queue_of q)) q a (with_ins o q)
    unfolding step
    polled_gone e h u =
        let g = told_gone (ring.values q.values) (model.no_sender (queue_of q)) e h in
        moves (step (PollIn n t) (queue_of q)) q (Err (Disconnected None)) a [] (option_to_list kept) (with_ins o q)
        (subst (λ (x : Error). Says (Err x) [] (option_to_list kept) a) (sym g.2) u) refl
        (ap₂ (λ (l : List ℕ) (i : side.Side model.Job). model.reply model.DISCONNECTED [] [] l (model.set_ins i (queue_of q))) y k.side
        ∙ sym (poll_in_gone n t (queue_of q) (deed_of op) f g.0 g.1))

    pub polled_value : (v : ℕ) (woken : Option Woken) (q' : Queue) → Ok (Some v) ≡ takable (queue_of q) → Moves (popped (queue_of (with_ins o q))) q' woken → Says (Ok (Value v)) (token_of woken) (option_to_list kept) a
        → Does (step (PollIn n t) (queue_of q)) q a q'
    unfolding step
    polled_value v woken q' h m u =
        moves (step (PollIn n t) (queue_of q)) q (Ok (Value v)) a (token_of woken) (option_to_list kept) q' u refl
        (ap₂ (λ (w : List ℕ) (x : model.Queue). model.reply model.VALUE (v ∷ []) w (option_to_list kept) x) m.wakes m.next
        ∙ (ap₂ (λ (l : List ℕ) (i : side.Side model.Job). let mv = popped (model.set_ins i (queue_of q)) in model.reply model.VALUE (v ∷ []) mv.wakes l mv.next) y k.side
        ∙ sym (poll_in_value n t (queue_of q) (deed_of op) v (ring.rest (ring.values q.values)) f (told_value (ring.values q.values) (model.no_sender (queue_of q)) v h))))

-- what a poll-in is told of the operation that it names, and the token that this kept
abbrev front_told : Result (Option ℕ) Error → Told
front_told (Ok None) = Ok Pending
front_told (Ok (Some v)) = Ok (Value v)
front_told (Err e) = Err e

abbrev pub pollable : Result Entry Error → model.Queue → Told
pollable (Ok op) q = front_told (takable q)
pollable (Err e) q = Err e

abbrev pub kept_of : Result Entry Error → List ℕ
kept_of (Ok op) = side.kept (stage_of op.stage)
kept_of (Err e) = []

-- the token kept is that of the stage of the operation seen
pub kept_of_lem : (found : Result Entry Error) (kept : Option ℕ) → option_to_list kept ≡ kept_of found → (op : Deed) → option_map deed_of (result_ok found) ≡ Some op → option_to_list kept ≡ side.kept op.stage
kept_of_lem (Ok x) kept y op f = let z : deed_of x ≡ op = cc in y ∙ ap (λ (d : Deed). side.kept d.stage) z
kept_of_lem (Err x) kept y op f = let z : ◌≡◌ {A = ℕ} 0 1 = cc in absurd (omega arith)

pub in_refused : (q : Queue) → Sound q → (n t : ℕ) (found : Result Entry Error) → Finds q.ins n found → (what : Told) → what ≡ pollable found (queue_of q)
    → (kept : Option ℕ) → option_to_list kept ≡ kept_of found → (woken : Option Woken) (retired : Option ℕ) (a : Answer) → Says what (token_of woken) (option_to_list retired) a → (q' : Queue)
    → ((v : ℕ) → what ≡ Ok (Value v) → ⊥) → ((c : Option ℕ) → what ≡ Err (Disconnected c) → ⊥) → (what ≡ Ok Pending → ⊥) → q' ≡ q → retired ≡ kept → woken ≡ None → Turned q (PollIn n t) a q'
unfolding step
in_refused q snd n t (Err x) f what e kept y woken retired a u q' not_value not_gone not_pending h m w =
    rw h (refuses_dead q (PollIn n t) (side_of q.ins).ops n what a snd (e ∙ ap (λ (z : Error). Err z) f.1) (rw (w, m, y) at u) (poll_in_dead n t (queue_of q) f.0))
in_refused q snd n t (Ok op) f what e kept y woken retired a u q' not_value not_gone not_pending h m w = absurd (told (ring.values q.values) (model.no_sender (queue_of q)) e)
  where
    told : (l : List ℕ) (gone : Bool) → what ≡ front_told (takable_of l gone) → ⊥
    told [] true p = not_gone None p
    told [] false p = not_pending p
    told (v ∷ l) gone p = not_value v p

-- ---- cancel_in
module _ (q : Queue) (snd : Sound q) (n : ℕ) (a : Answer) where
  module _ (op : Entry) (f : Finds q.ins n (Ok op)) (o : Side) (k : Ends q.ins n o) (b : Bool) (h : b ≡ passes (stage_of op.stage) (queue_of (with_ins o q))) where
    pub cancel_in_passed_on : (woken : Option Woken) (q' : Queue) → b ≡ true → Moves (model.notify (queue_of (with_ins o q))) q' woken → Says (Ok Done) (token_of woken) [] a → Turned q (CancelIn n) a q'
    unfolding step
    cancel_in_passed_on woken q' d m u =
        does q (CancelIn n) a q' snd
        (subst (λ (w : model.Result). Does w q a q')
        (ap (λ (i : side.Side model.Job). model.done_by (model.notify (model.set_ins i (queue_of q)))) k.side ∙ sym (cancel_in_passed n (queue_of q) (deed_of op) f (sym h ∙ d)))
        (done (model.notify (queue_of (with_ins o q))) q woken a q' m u))

    pub cancel_in_ended : (kept : Option ℕ) → b ≡ false → option_to_list kept ≡ side.kept (stage_of op.stage) → Says (Ok Done) [] (option_to_list kept) a → Turned q (CancelIn n) a (with_ins o q)
    unfolding step
    cancel_in_ended kept d y u =
        does q (CancelIn n) a (with_ins o q) snd
        (moves (step (CancelIn n) (queue_of q)) q (Ok Done) a [] (option_to_list kept) (with_ins o q) u refl
        (ap₂ (λ (l : List ℕ) (i : side.Side model.Job). model.reply model.DONE [] [] l (model.set_ins i (queue_of q))) y k.side ∙ sym (cancel_in_other n (queue_of q) (deed_of op) f (sym h ∙ d))))
