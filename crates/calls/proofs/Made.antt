-- A make: its answer is a success exactly where the definition's code is that of work done, and make-u is never refused. Assumes nothing.
use Prim.Native.Nat.{ℕ, ◌<◌, ◌≤◌}
use mathlib.Core.Path.{◌≡◌, refl, sym, ap, ◌∙◌}
use mathlib.Core.Bool.{Bool, true, false, ◌&&◌}
use native.Mathlib.Omega.{arith}
use borrow.Author.Tests.{eq-eqb, ne_eqb}
use Rattle.std.specs.Prelude.{[], Ok, Err, Some, is_ok, if◌then◌else◌, leb, eqb}
use Rattle.model.specs.Queue.{RING, DONE, BAD_CAPACITY, Ans, Result, reply, refuse, fresh, slots, nothing}
use Rattle.model.specs.Calls.{make, make_u, by_make, by_make_u}
use Rattle.lines.specs.declared.Line.TheVariants as Line
use Rattle.queue.specs.declared.Success.{Success}
use Rattle.queue.specs.declared.Success.TheVariants.{Done, Discarded, Value, Given, Pending, Status}
use Rattle.queue.specs.declared.Error.{Error}
use Rattle.queue.specs.declared.Error.TheVariants.{Full, Empty, Disconnected, BadCapacity, NoHandle, Closed, InUse, NoRoom, RingFull, WrongKind}
use Rattle.queue.specs.declared.Turn.{Turn}
use Rattle.queue.specs.Meaning.{queue_of}
use Rattle.queue.specs.Answers.{Told, code_of, ans_of}
use Rattle.queue.specs.Promise.{Made}
use Rattle.calls.specs.Model.{Held, Steps}

ok_code : (s : Success) → code_of (Ok s) < 10
ok_code Done = omega arith
ok_code (Discarded n) = omega arith
ok_code (Value v) = omega arith
ok_code (Given n) = omega arith
ok_code Pending = omega arith
ok_code (Status c) = omega arith

error_code : (e : Error) → 10 ≤ code_of (Err e)
error_code (Full c) = omega arith
error_code Empty = omega arith
error_code (Disconnected c) = omega arith
error_code BadCapacity = omega arith
error_code NoHandle = omega arith
error_code Closed = omega arith
error_code InUse = omega arith
error_code NoRoom = omega arith
error_code RingFull = omega arith
error_code WrongKind = omega arith

done_is_ok : (w : Told) → code_of w ≡ DONE → true ≡ is_ok w
done_is_ok (Ok s) e = refl
done_is_ok (Err x) e = absurd (omega (arith, error_code x))

refused_is_error : (w : Told) → code_of w ≡ BAD_CAPACITY → false ≡ is_ok w
refused_is_error (Ok s) e = absurd (omega (arith, ok_code s))
refused_is_error (Err x) e = refl

abbrev by_test : ℕ → Bool → Result
by_test n b = if b then reply DONE [] [] [] (fresh n (slots n)) else refuse BAD_CAPACITY nothing

test_is_ok : (n : ℕ) (w : Told) (b : Bool) → code_of w ≡ (by_test n b).ans.code → eqb (by_test n b).ans.code DONE ≡ is_ok w
test_is_ok n w true e = done_is_ok w e
test_is_ok n w false e = refused_is_error w e

pub made_is_ok : (n : ℕ) (w : Told) → code_of w ≡ (make n).ans.code → eqb (make n).ans.code DONE ≡ is_ok w
unfolding make
made_is_ok n w e = test_is_ok n w (leb 1 n && leb n RING) e

-- a good make begins its queue, and a refused one keeps the queue before it
pub good_make : {h : Held} {n : ℕ} {t : Turn} → Made (by_make n) t.answer t.queue → code_of t.answer.what ≡ 0 → Steps h (Line.Make n) (Some (queue_of t.queue)) (ans_of t.answer)
good_make {n = n} made e = record {
  next = rw (eq-eqb (make n).ans.code 0 (sym (ap (λ (x : Ans). x.code) made.answer) ∙ e)) (ap Some made.next);
  reply = made.answer;
}

pub refused_make : {h : Held} {n : ℕ} {t : Turn} → Made (by_make n) t.answer t.queue → (code_of t.answer.what ≡ 0 → ⊥) → Steps h (Line.Make n) h (ans_of t.answer)
refused_make {n = n} made e = record {
  next = rw (ne_eqb (make n).ans.code 0 (λ z. e (ap (λ (x : Ans). x.code) made.answer ∙ z)));
  reply = made.answer;
}

-- make-u, which is never refused
pub unbounded_made : {h : Held} {t : Turn} → Made by_make_u t.answer t.queue → Steps h Line.MakeU (Some (queue_of t.queue)) (ans_of t.answer)
unfolding make_u
unbounded_made made = record { next = ap Some made.next; reply = made.answer }
