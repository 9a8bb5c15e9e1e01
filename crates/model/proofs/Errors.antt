-- The easy errors are not made, on any queue that keeps the invariant. Assumes nothing.
use Rattle.std.specs.Prelude.{if◌then◌else◌}
use mathlib.Core.Path.{◌≡◌, refl, ap, ◌∙◌}
use mathlib.Core.Bool.{Bool, true, false, not, ◌&&◌}
use mathlib.Core.List.{List, [], ◌∷◌, ◌++◌}
use Rattle.std.specs.Prelude.{Some}
use Prim.Native.Nat.{ℕ, ◌<◌}
use native.Mathlib.Omega.{arith}
use lib.Dec.{eqb, ltb}
use lib.ListN.{length, take, drop}
use borrow.Author.Tests.{eq-eqb, ne_eqb, lt-ltb}
use Rattle.model.specs.Table.{Table, lookup, clear, of, live, same}
use Rattle.model.specs.Side.{Stage, idle, waiting, called, void, Op, Side, waits, is_called, kept, kept_at, without, ended, call_first, first_token, tokens_of}
use Rattle.model.specs.Queue.{Queue, Job, Room, slots, unbounded, Moved, Result, no_receiver, no_free, none_of, no_sender, release, release_to, set_outs, DONE}
use Rattle.model.specs.Calls.{step}
use Rattle.model.specs.Promises.{queued, senders_left, Open, NoEasyError}
use Rattle.model.proofs.TableLaws.{if_cases, same_yes, has_live, of_le, lookup_clear_other}
use Rattle.model.proofs.SideLaws.{occurs, op_waits, op_called, Sound}
use Rattle.model.proofs.Kept.{Stored, Inv, none_reserved_lem}
use Rattle.model.proofs.Leaves.{try_send_full, poll_out_pending, cancel_out_granted, cancel_out_other, poll_in_pending, cancel_in_passed, cancel_in_other}

-- ---- an operation that is not in line ends: the line and its tokens stay
without_none : (n : ℕ) (l : List ℕ) → occurs n l ≡ 0 → without n l ≡ l
without_none n [] e = refl
without_none n (k ∷ l) e =
    if_cases (λ (x : List ℕ). x ≡ k ∷ l) (eqb n k) (without n l) (k ∷ without n l)
    (λ t. let z : same n k ≡ 1 = ap {B = ℕ} (λ (b : Bool). if b then 1 else 0) t in absurd (omega arith))
    (λ t. ap (λ (x : List ℕ). k ∷ x) (without_none n l (omega arith)))

tokens_clear : (t : Table (Op Job)) (n : ℕ) (op : Op Job) (l : List ℕ) → lookup t n ≡ Some op → occurs n l ≡ 0 → tokens_of (clear t n) l ≡ tokens_of t l
tokens_clear t n op [] e z = refl
tokens_clear t n op (k ∷ l) e z =
    let apart : k ≡ n → ⊥ = λ q. let y = same_yes n in let x : same n k ≡ same n n = ap (same n) q in omega arith in
    ap (λ (x : List ℕ). kept_at (lookup (clear t n) k) ++ x) (tokens_clear t n op l e (omega arith))
    ∙ ap (λ o. kept_at o ++ tokens_of t l) (lookup_clear_other t n k (has_live t n op e) apart)

first_none : (n : ℕ) (l : List ℕ) → occurs n l ≡ 0 → occurs n (take 1 l) ≡ 0
first_none n [] e = refl
first_none n (k ∷ l) e = omega arith

call_line : (s : Side Job) → (call_first s).line ≡ drop 1 s.line
call_line s = go s.line refl
  where
    go : (l : List ℕ) → s.line ≡ l → (call_first s).line ≡ drop 1 s.line
    go [] e = rw e
    go (n ∷ l) e = rw e

-- ---- a stage that is neither in line nor called keeps no token
kept_none : (st : Stage) → waits st ≡ 0 → kept st ≡ []
kept_none idle e = refl
kept_none (waiting t) e = absurd (omega arith)
kept_none called e = refl
kept_none void e = refl

-- ---- operation n of a sound side, called: it is not in line
module _ (s : Side Job) (sound : Sound 32 s) (n h : ℕ) (j : Job) (stands : Open s n h j called) where
  absent : occurs n s.line ≡ 0
  absent = sound.lined n ∙ ap (of op_waits) stands

  pub rest_line : (ended n s).line ≡ s.line
  rest_line = without_none n s.line absent

  pub rest_token : first_token (ended n s) ≡ first_token s
  rest_token =
      ap (λ (l : List ℕ). tokens_of (clear s.ops n) (take 1 l)) rest_line
      ∙ tokens_clear s.ops n (record { owner = h; job = j; stage = called }) (take 1 s.line) stands (first_none n s.line absent)

-- ---- a slot released while a sender is in line
passed : (q : Queue) → no_receiver q ≡ false → 0 < length q.outs.line
    → release q ≡ record { wakes = first_token q.outs; next = set_outs (call_first q.outs) q }
passed q r p = ap (λ (b : Bool). if b then record { wakes = []; next = q } else release_to q.outs.line q) r ∙ go q.outs.line refl
  where
    go : (l : List ℕ) → q.outs.line ≡ l → release_to q.outs.line q ≡ record { wakes = first_token q.outs; next = set_outs (call_first q.outs) q }
    go [] e = absurd (omega (arith, ap length e))
    go (m ∷ l) e = ap (λ (x : List ℕ). release_to x q) e

-- ---- a sender in line: the queue is bounded, and without free room
full : (q : Queue) → Inv 0 0 q → 0 < length q.outs.line → no_free q ≡ true
full q i p = go q.free refl i.account.stored
  where
    go : (f : Room) → q.free ≡ f → Stored f i.account.left q.cap → none_of f ≡ true
    go (slots n) e s = eq-eqb n 0 (let t = i.account.tight p in omega arith)
    go unbounded e s = absurd (omega (arith, i.outs.long, (none_reserved_lem q i.s_own e).outs op_waits))

pub no_easy_error : (q : Queue) → Inv 0 0 q → NoEasyError q
unfolding step
no_easy_error q i =
    record {
      nobody_passed = λ s v m e r p. try_send_full s v q m e (ne_eqb (live q.receivers) 0 (λ z. omega arith)) (full q i p);
      sender_keeps_place = λ n t h k j e r.
          ap (λ (x : Result). x.next.outs.line)
          (poll_out_pending n t q (record { owner = h; job = j; stage = waiting k }) e (ne_eqb (live q.receivers) 0 (λ z. omega arith)) refl refl);
      receiver_keeps_place = λ n t h k j e v r.
          ap (λ (x : Result). x.next.ins.line)
          (poll_in_pending n t q (record { owner = h; job = j; stage = waiting k }) e v (ne_eqb (live q.senders) 0 (λ z. omega arith)));
      rejoins_at_the_tail = λ n t h j e v r.
          ap (λ (x : Result). x.next.ins.line)
          (poll_in_pending n t q (record { owner = h; job = j; stage = called }) e v (ne_eqb (live q.senders) 0 (λ z. omega arith)));
      notice_passed_on = λ n h j e r p.
          let law = cancel_in_passed n q (record { owner = h; job = j; stage = called }) e (passes r p) in (
            ap (λ (x : Result). x.ans.wakes) law ∙ rest_token q.ins i.ins n h j e,
            ap (λ (x : Result). x.next.ins.line) law ∙ call_line (ended n q.ins) ∙ ap (drop 1) (rest_line q.ins i.ins n h j e),
          );
      grant_passed_on = λ n h j e p.
          let line = rest_line q.outs i.outs n h j e in
          let law = cancel_out_granted n q (record { owner = h; job = j; stage = called }) e refl in
          let to = passed (set_outs (ended n q.outs) q) (ne_eqb (live q.receivers) 0 (λ z. let g = i.account.gone z in omega arith)) (omega (arith, ap length line)) in (
            ap (λ (x : Result). x.ans.wakes) law ∙ ap (λ (x : Moved). x.wakes) to ∙ rest_token q.outs i.outs n h j e,
            ap (λ (x : Result). x.next.outs.line) law ∙ ap (λ (x : Moved). x.next.outs.line) to ∙ call_line (ended n q.outs) ∙ ap (drop 1) line,
            ap (λ (x : Result). x.next.free) law ∙ ap (λ (x : Moved). x.next.free) to,
          );
      out_line_gone = λ n h j st e z.
          let g = i.account.gone z in
          let w = of_le op_waits q.outs.ops n in
          let c = of_le op_called q.outs.ops n in
          let law = cancel_out_other n q (record { owner = h; job = j; stage = st }) e
          (ne_eqb (is_called st) 1 (λ y. omega (arith, ap (of op_called) e))) in
          ap (λ (x : Result). x.ans) law
          ∙ ap (λ (l : List ℕ). record { code = DONE; field = []; wakes = []; retired = l }) (kept_none st (omega (arith, ap (of op_waits) e, i.outs.long)));
      in_line_gone = λ n h j st e z.
          let g = i.notices.gone z in
          let w = of_le op_waits q.ins.ops n in
          let law = cancel_in_other n q (record { owner = h; job = j; stage = st }) e (stays st z) in
          ap (λ (x : Result). x.ans) law
          ∙ ap (λ (l : List ℕ). record { code = DONE; field = []; wakes = []; retired = l }) (kept_none st (omega (arith, ap (of op_waits) e, i.ins.long)));
    }
  where
    passes : 0 < senders_left q → 0 < queued q → (not (no_sender q) && ltb 0 (length q.values)) ≡ true
    passes r p = rw (ne_eqb (live q.senders) 0 (λ z. omega arith), lt-ltb 0 (length q.values) p)

    and_false : (a : Bool) → (a && false) ≡ false
    and_false true = refl
    and_false false = refl

    stays : (st : Stage) → senders_left q ≡ 0 → (eqb (is_called st) 1 && (not (no_sender q) && ltb 0 (length q.values))) ≡ false
    stays st z = rw (eq-eqb (live q.senders) 0 z) (and_false (eqb (is_called st) 1))
