-- Handles come and go; and status. Assumes nothing.
use Prim.Native.Nat.{ℕ}
use mathlib.Core.Path.{◌≡◌, refl, sym, ap, ◌∙◌, subst}
use mathlib.Core.Bool.{Bool, true, false}
use mathlib.Core.List.{[], ◌∷◌}
use Rattle.std.specs.Prelude.{eqb, ltb, if◌then◌else◌, Option, None, Some, Result, Ok, Err, OnErr}
use native.Mathlib.Omega.{arith}
use lib.ListN.{length}
use mir.Val.{Fits}
use mir.Syntax.{w32}
use Rattle.ring.specs.Values as ring
use Rattle.ring.proofs.Laws.{length_values}
use Rattle.tables.specs.declared.Handles.{Handles}
use Rattle.tables.specs.Meaning.{handles_of}
use Rattle.tables.specs.Calls.{Leaves}
use Rattle.model.specs.Table.{Table, lookup, was_closed, lowest, put, clear, live}
use Rattle.model.specs.Queue as model
use Rattle.model.specs.declared.Call.TheVariants.{CloneS, CloneR, DropS, DropR}
use Rattle.model.specs.Calls.{step, clone_s, clone_r, drop_s, drop_r}
use Rattle.queue.specs.declared.Queue.{Queue}
use Rattle.queue.specs.declared.Error.{Error}
use Rattle.queue.specs.declared.Success.TheVariants.{Done, Discarded}
use Rattle.queue.specs.declared.Answer.{Answer}
use Rattle.queue.specs.Meaning.{queue_of, Sound}
use Rattle.model.specs.declared.Call.{Call}
use Rattle.queue.specs.Answers.{Told, code_of, field_of}
use Rattle.queue.specs.Promise.{Turned}
use Rattle.queue.specs.Steps.{Says, number_told, Does, live_by, live_in, cloned, put_given, ClonesIn, closable, ClosesIn, silenced, discarded}
use Rattle.queue.proofs.Settled.{does, gives, moves, decided, refuses, follows, on_the_way, with_senders, with_receivers, none_left, some_left}

-- ---- the handles of one kind: their table, and how a table is put into the queue and into the definition's
pub record HandleKind (q : Queue) : Type 0 where
  pub table : Handles
  pub with_table : Handles → Queue
  pub set : Table model.Mark → model.Queue
  pub puts : (h : Handles) → queue_of (with_table h) ≡ set (handles_of h)
  pub whole : with_table table ≡ q

abbrev pub senders_of : (q : Queue) → HandleKind q
senders_of q = record { table = q.senders; with_table = λ h. with_senders h q; set = λ x. model.set_senders x (queue_of q); puts = λ h. refl; whole = refl }

abbrev pub receivers_of : (q : Queue) → HandleKind q
receivers_of q = record { table = q.receivers; with_table = λ h. with_receivers h q; set = λ x. model.set_receivers x (queue_of q); puts = λ h. refl; whole = refl }

-- ---- clone_s, clone_r
module _ (q : model.Queue) (set : Table model.Mark → model.Queue) (t : Table model.Mark) (e : set t ≡ q) where
  cloned_by : (o : Option model.Mark) (closed : Bool) (l : Option ℕ)
      → model.reply (code_of (number_told (cloned (live_by o closed) l))) (field_of (number_told (cloned (live_by o closed) l))) [] [] (set (put_given (cloned (live_by o closed) l) tt t))
      ≡ model.need_of o (if closed then model.CLOSED else model.NO_HANDLE) q (λ _. model.give_of l q (λ n. model.reply model.GIVEN (n ∷ []) [] [] (set (put t n tt))))
  cloned_by None true l = ap (model.refuse model.CLOSED) e
  cloned_by None false l = ap (model.refuse model.NO_HANDLE) e
  cloned_by (Some a) closed None = ap (model.refuse model.NO_ROOM) e
  cloned_by (Some a) closed (Some n) = refl

  cloned_is : (s : ℕ) (r : Result ℕ Error) (t' : Table model.Mark) → r ≡ cloned (live_in t s) (lowest t) → t' ≡ put_given r tt t
      → model.reply (code_of (number_told r)) (field_of (number_told r)) [] [] (set t') ≡ model.need t s q (λ _. model.give t q (λ n. model.reply model.GIVEN (n ∷ []) [] [] (set (put t n tt))))
  cloned_is s r t' f g =
      ap (λ (x : Table model.Mark). model.reply (code_of (number_told r)) (field_of (number_told r)) [] [] (set x)) g
      ∙ (ap (λ (x : Result ℕ Error). model.reply (code_of (number_told x)) (field_of (number_told x)) [] [] (set (put_given x tt t))) f ∙ cloned_by (lookup t s) (was_closed t s) (lowest t))

module _ {q : Queue} (k : HandleKind q) (snd : Sound q) (c : Call) (s : ℕ) (r : Result ℕ Error) (h : Handles) (a : Answer) where
  on_error : (x : Result ℕ Error) → OnErr x (h ≡ k.table) → OnErr x (k.with_table h ≡ q)
  on_error (Ok n) e = tt
  on_error (Err y) e = ap k.with_table e ∙ k.whole

  clone_turn : step c (queue_of q) ≡ model.need (handles_of k.table) s (queue_of q) (λ _. model.give (handles_of k.table) (queue_of q) (λ n. model.reply model.GIVEN (n ∷ []) [] [] (k.set (put (handles_of k.table) n tt))))
      → Says (number_told r) [] [] a → ClonesIn k.table s r h → Turned q c a (k.with_table h)
  clone_turn is u d =
      gives q c r a (k.with_table h) snd
      (record {
        is =
            ap (model.reply (code_of (number_told r)) (field_of (number_told r)) [] []) (k.puts h)
            ∙ (cloned_is (queue_of q) k.set (handles_of k.table) (sym (k.puts k.table) ∙ ap queue_of k.whole) s r (handles_of h) d.number d.table ∙ sym is);
        same = on_error r d.same;
      }) u

module _ (q : Queue) (snd : Sound q) (s : ℕ) (r : Result ℕ Error) (h : Handles) (a : Answer) (u : Says (number_told r) [] [] a) where
  pub clone_s_turn : ClonesIn q.senders s r h → Turned q (CloneS s) a (with_senders h q)
  unfolding step clone_s
  clone_s_turn = clone_turn (senders_of q) snd (CloneS s) s r h a refl u

  pub clone_r_turn : ClonesIn q.receivers s r h → Turned q (CloneR s) a (with_receivers h q)
  unfolding step clone_r
  clone_r_turn = clone_turn (receivers_of q) snd (CloneR s) s r h a refl u

-- ---- drop_s, drop_r: the test, and what follows
close_is : {A : Type 0} (go : model.Result) (o : Option A) (closed busy : Bool) (q : model.Queue)
    → decided (λ (u : Unit {0}). go) (closable (live_by o closed) busy) q ≡ model.need_of o (if closed then model.CLOSED else model.NO_HANDLE) q (λ (a : A). if busy then model.refuse model.IN_USE q else go)
close_is go None true busy q = refl
close_is go None false busy q = refl
close_is go (Some a) closed true q = refl
close_is go (Some a) closed false q = refl

-- A handle leaves by the call c: of which kind, whether a record keeps it busy, what the last one leaves, and what is told of any other.
pub record Leaving (q : Queue) (c : Call) (s : ℕ) : Type 0 where
  pub kind : HandleKind q
  pub owns : Bool
  pub last : model.Queue → model.Result
  pub told : Told
  pub last_no_refusal : (m : model.Queue) → ltb (last m).ans.code 20 ≡ true
  pub told_no_refusal : ltb (code_of told) 20 ≡ true
  pub is : decided (λ (u : Unit {0}). if eqb (live (clear (handles_of kind.table) s)) 0 then last (kind.set (clear (handles_of kind.table) s)) else model.reply (code_of told) (field_of told) [] [] (kind.set (clear (handles_of kind.table) s))) (closable (live_in (handles_of kind.table) s) owns) (queue_of q) ≡ step c (queue_of q)

pub sender_is : (s : ℕ) (q : model.Queue)
    → decided (λ (u : Unit {0}). if eqb (live (clear q.senders s)) 0 then silenced (model.set_senders (clear q.senders s) q) else model.reply model.DONE [] [] [] (model.set_senders (clear q.senders s) q)) (closable (live_in q.senders s) (model.sender_busy s q)) q ≡ step (DropS s) q
unfolding step drop_s
sender_is s q = close_is _ (lookup q.senders s) (was_closed q.senders s) (model.sender_busy s q) q

abbrev pub sender_leaves : (q : Queue) (s : ℕ) → Leaving q (DropS s) s
sender_leaves q s =
    record {
      kind = senders_of q;
      owns = model.sender_busy s (queue_of q);
      last = silenced;
      told = Ok Done;
      last_no_refusal = λ m. refl;
      told_no_refusal = refl;
      is = sender_is s (queue_of q);
    }

pub receiver_is : (s : ℕ) (q : model.Queue)
    → decided (λ (u : Unit {0}). if eqb (live (clear q.receivers s)) 0 then discarded (model.set_receivers (clear q.receivers s) q) else model.reply model.DONE (0 ∷ []) [] [] (model.set_receivers (clear q.receivers s) q)) (closable (live_in q.receivers s) (model.receiver_busy s q)) q ≡ step (DropR s) q
unfolding step drop_r
receiver_is s q = close_is _ (lookup q.receivers s) (was_closed q.receivers s) (model.receiver_busy s q) q

abbrev pub receiver_leaves : (q : Queue) (s : ℕ) → Leaving q (DropR s) s
receiver_leaves q s =
    record {
      kind = receivers_of q;
      owns = model.receiver_busy s (queue_of q);
      last = discarded;
      told = Ok (Discarded 0);
      last_no_refusal = λ m. refl;
      told_no_refusal = refl;
      is = receiver_is s (queue_of q);
    }

-- the queue without the handle that left
module _ (q : Queue) (s : ℕ) (h : Handles) where
  pub senders_left_lem : Leaves q.senders s h → queue_of (with_senders h q) ≡ model.set_senders (clear (handles_of q.senders) s) (queue_of q)
  senders_left_lem k = ap (λ (x : Table model.Mark). model.set_senders x (queue_of q)) k.handles

  pub receivers_left_lem : Leaves q.receivers s h → queue_of (with_receivers h q) ≡ model.set_receivers (clear (handles_of q.receivers) s) (queue_of q)
  receivers_left_lem k = ap (λ (x : Table model.Mark). model.set_receivers x (queue_of q)) k.handles

module _ {c : Call} {q : Queue} {s : ℕ} (l : Leaving q c s) (snd : Sound q) (a : Answer) (busy : Bool) (g : busy ≡ l.owns) where
  asked : (r : Result (Unit {0}) Error) → closable (live_in (handles_of l.kind.table) s) busy ≡ r → r ≡ closable (live_in (handles_of l.kind.table) s) l.owns
  asked r f = sym f ∙ ap (closable (live_in (handles_of l.kind.table) s)) g

  pub drop_refused : (e : Error) → ClosesIn l.kind.table s busy (Err e) → Says (Err e) [] [] a → Turned q c a q
  drop_refused e f u = does q c a q snd (refuses _ _ q _ l.is e a (asked (Err e) f) u)

  -- a handle that is not live, whatever a record may own
  pub drop_dead : (e : Error) → Err e ≡ live_in (handles_of l.kind.table) s → Says (Err e) [] [] a → Turned q c a q
  drop_dead e f u = drop_refused e (ap (λ (r : Result (Unit {0}) Error). closable r busy) (sym f)) u

  module _ (h : Handles) (k : ClosesIn l.kind.table s busy (Ok h)) (n : ℕ) (f : n ≡ live (handles_of h)) where
    abbrev left : Table model.Mark → Bool → model.Result
    left x gone = if gone then l.last (l.kind.set x) else model.reply (code_of l.told) (field_of l.told) [] [] (l.kind.set x)

    is_left : left (handles_of h) (eqb (live (handles_of h)) 0) ≡ step c (queue_of q)
    is_left = ap (λ (x : Table model.Mark). left x (eqb (live x) 0)) k.1.handles ∙ follows _ _ q _ l.is tt (asked (Ok tt) k.0)

    pub drop_last : (q' : Queue) → n ≡ 0 → Does (l.last (queue_of (l.kind.with_table h))) (l.kind.with_table h) a q' → Turned q c a q'
    drop_last q' z d =
        does q c a q' snd
        (subst (λ (w : model.Result). Does w q a q')
        (ap l.last (l.kind.puts h) ∙ (sym (ap (left (handles_of h)) (none_left (handles_of h) n f z)) ∙ is_left))
        (on_the_way q (l.kind.with_table h) (l.last (queue_of (l.kind.with_table h))) a q' (l.last_no_refusal (queue_of (l.kind.with_table h))) d))

    pub drop_other : (n ≡ 0 → ⊥) → Says l.told [] [] a → Turned q c a (l.kind.with_table h)
    drop_other z u =
        does q c a (l.kind.with_table h) snd
        (moves _ q l.told a [] [] (l.kind.with_table h) u l.told_no_refusal
        (ap (model.reply (code_of l.told) (field_of l.told) [] []) (l.kind.puts h) ∙ (sym (ap (left (handles_of h)) (some_left (handles_of h) n f z)) ∙ is_left)))

-- ---- discard, counts, status
pub values_fit : (q : Queue) (n : ℕ) → n ≡ length (ring.values q.values) → Fits w32 n
values_fit q n e = record { fits = omega (arith, length_values q.values, q.values.fits) }

pub values_fit_lem : (q : Queue) (n : ℕ) → n ≡ length (ring.values q.values) → Fits w32 n
values_fit_lem = values_fit
