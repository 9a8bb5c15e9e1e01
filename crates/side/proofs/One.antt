-- Promises determine: any two answers that a promise allows tell the same, and leave sides of one meaning. (`get`, `line_is_empty`, `in_line`,
-- `owned_by`, `called`, `polled`, `kept`, `is_called` and `Op::fresh` answer by an equation.) Assumes nothing.
use Prim.Native.Nat.{ℕ}
use mathlib.Core.Path.{◌≡◌, sym, ap, ◌∙◌}
use Rattle.std.specs.Prelude.{Option, option_map, option_to_list}
use Rattle.wakes.specs.Tokens.{tokens_of}
use Rattle.tables.specs.declared.Opened.{Opened}
use Rattle.side.specs.declared.Side.{Side}
use Rattle.side.specs.declared.Pended.{Pended}
use Rattle.side.specs.declared.CalledOne.{CalledOne}
use Rattle.side.specs.declared.Closed.{Closed}
use Rattle.side.specs.Meaning.{carried, side_of}
use Rattle.side.specs.Calls.{Open, Fresh, opened_if, Opens, Ends, Pends, CallsOne, Closes}

pub fresh_one : (r t : Side) → Fresh r → Fresh t → side_of r ≡ side_of t
fresh_one r t p q = p.side ∙ sym q.side

module _ (s : Side) where
  pub open_one : (h : ℕ) (j : Option ℕ) (r t : Opened Side) → Opens s h j r → Opens s h j t
      → (r.number ≡ t.number) × (side_of r.next ≡ side_of t.next)
  open_one h j r t p q =
      let e : r.number ≡ t.number = p.number ∙ sym q.number in
      (e, p.side ∙ (ap (λ (o : Option ℕ). opened_if o h (carried j) (side_of s)) e ∙ sym q.side))

  pub end_one : (n : ℕ) (r t : Side) → Ends s n r → Ends s n t → side_of r ≡ side_of t
  end_one n r t p q = p.side ∙ sym q.side

  -- `pend` asks that the operation is open
  pub pend_one : (n k : ℕ) (r t : Pended) → Open s n → Pends s n k r → Pends s n k t
      → (option_to_list r.retired ≡ option_to_list t.retired) × (side_of r.side ≡ side_of t.side)
  pend_one n k r t o p q =
      (p.retired o.0 o.1 ∙ sym (q.retired o.0 o.1), p.side o.0 o.1 ∙ sym (q.side o.0 o.1))

  pub call_one : (r t : CalledOne) → CallsOne s r → CallsOne s t
      → (option_to_list (option_map (λ w. w.token) r.woken) ≡ option_to_list (option_map (λ w. w.token) t.woken)) × (option_to_list (option_map (λ w. w.number) r.woken) ≡ option_to_list (option_map (λ w. w.number) t.woken)) × (side_of r.side ≡ side_of t.side)
  call_one r t p q = (p.woken ∙ sym q.woken, p.number ∙ sym q.number, p.side ∙ sym q.side)

  pub close_one : (r t : Closed) → Closes s r → Closes s t
      → (tokens_of r.wakes ≡ tokens_of t.wakes) × (side_of r.side ≡ side_of t.side)
  close_one r t p q = (p.wakes ∙ sym q.wakes, p.side ∙ sym q.side)
