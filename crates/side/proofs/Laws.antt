-- THE LAWS OF A TABLE OF OPERATIONS BESIDE A WAIT LIST. Every move but the last touches one operation, at the place n, and at most one node i:
-- `Only` says once what follows of that. Assumes nothing.
use Prim.Native.Nat.{ℕ, ◌<◌}
use mathlib.Core.Path.{◌≡◌, refl, sym, ap, ◌∙◌, subst}
use mathlib.Core.List.{List, [], ◌∷◌, ◌++◌, Memᴰ}
use Rattle.std.proofs.lemmas.Option.{none-some}
use Rattle.std.specs.Prelude.{Option, None, Some}
use native.Mathlib.Decide.{ℕ_discrete, dec_lt}
use native.Mathlib.Omega.{arith}
use lib.ListN.{length, get_or, set, length-set}
use lib.Seq.{get_or-set_same, get_or-set_other, set_out}
use Rattle.arena.specs.declared.WaiterId.{WaiterId}
use Rattle.arena.specs.declared.Waiter.{Waiter}
use Rattle.arena.specs.declared.Waiter.TheVariants.{Waiting, Called}
use Rattle.waitlist.specs.declared.WaitList.{WaitList}
use Rattle.waitlist.specs.declared.Held.{Held}
use Rattle.waitlist.specs.View.{waiter_id, held, line, op_of}
use Rattle.waitlist.specs.Sound as wait
use Rattle.waitlist.specs.Owners.{Owned}
use Rattle.waitlist.proofs.Segs.{same_id, no_id}
use Rattle.model.specs.Side as model
use Rattle.side.specs.declared.Mark.{Mark}
use Rattle.side.specs.declared.Mark.TheVariants.{Idle, At, Void}
use Rattle.side.specs.declared.Op.{Op}
use Rattle.side.specs.Meaning.{told_by, stage_in, stage_by, deed_by}
use Rattle.side.specs.Sound.{node_of, node_in, node_at, Ties}

pub same_op : (m n : ℕ) (x y : Waiter) → ◌≡◌ {A = Option Held} (Some (record { op = m; waiter = x })) (Some (record { op = n; waiter = y })) → m ≡ n
same_op m n x y e = ap op_of e

-- ---- an operation that is there, by its node
pub mark_at : (m : Mark) (i : ℕ) → node_of m ≡ Some (waiter_id i) → m ≡ At (waiter_id i)
mark_at Idle i q = absurd (no_id i q)
mark_at (At id) i q = cc
mark_at Void i q = absurd (no_id i q)

pub with_node : (o : Option Op) (i : ℕ) → node_in o ≡ Some (waiter_id i) → (op : Op) × (o ≡ Some op) × (op.mark ≡ At (waiter_id i))
with_node None i e = absurd (no_id i e)
with_node (Some op) i e = (op, refl, mark_at op.mark i e)

-- a mark that says `waiting k` names a node that does
pub node_waits : (w : WaitList) (m : Mark) (k : ℕ) → stage_by w m ≡ model.waiting k → (i : ℕ) × (m ≡ At (waiter_id i)) × (op : ℕ) × (held w i ≡ Some (record { op = op; waiter = Waiting k }))
node_waits w Idle k e = let z : ◌≡◌ {A = ℕ} 0 1 = cc in absurd (omega arith)
node_waits w (At id) k e = let b = by (held w id.0.0) e in (id.0.0, refl, b.0, b.1)
  where
    waits : (x : Waiter) → told_by x ≡ model.waiting k → x ≡ Waiting k
    waits (Waiting t) q = cc
    waits Called q = let z : ◌≡◌ {A = ℕ} 0 1 = cc in absurd (omega arith)

    by : (h : Option Held) → stage_in h ≡ model.waiting k → (op : ℕ) × (h ≡ Some (record { op = op; waiter = Waiting k }))
    by None q = let z : ◌≡◌ {A = ℕ} 0 1 = cc in absurd (omega arith)
    by (Some h) q = (h.op, ap (λ (x : Waiter). Some (record { op = h.op; waiter = x })) (waits h.waiter q))
node_waits w Void k e = let z : ◌≡◌ {A = ℕ} 0 1 = cc in absurd (omega arith)

-- an operation whose node holds what it held is as it was
stage_kept : (w w' : WaitList) (m : Mark) → ((i : ℕ) → node_of m ≡ Some (waiter_id i) → held w' i ≡ held w i) → stage_by w' m ≡ stage_by w m
stage_kept w w' Idle h = refl
stage_kept w w' (At id) h = ap stage_in (h id.0.0 refl)
stage_kept w w' Void h = refl

deed_kept : (w w' : WaitList) (op : Op) → ((i : ℕ) → node_of op.mark ≡ Some (waiter_id i) → held w' i ≡ held w i) → deed_by w' op ≡ deed_by w op
deed_kept w w' op h = ap (λ (st : model.Stage). model.re_stage (λ old. st) (deed_by w op)) (stage_kept w w' op.mark h)

-- ---- ONE PLACE n AND ONE NODE i: every other operation and node is as it was, and node i was n's or nobody's
pub record Only (t t' : List (Option Op)) (w w' : WaitList) (n i : ℕ) : Type 0 where
  pub small : n < 32
  pub sized : length t' ≡ 32
  pub other : (k : ℕ) → (k ≡ n → ⊥) → get_or t' k None ≡ get_or t k None
  pub there : (k : ℕ) → (k ≡ i → ⊥) → held w' k ≡ held w k
  pub was : (op : ℕ) (x : Waiter) → held w i ≡ Some (record { op = op; waiter = x }) → op ≡ n
  pub had : (k : ℕ) → node_at t n ≡ Some (waiter_id k) → k ≡ i

-- what n and i are to each other afterwards
pub data Link (o : Option WaiterId) (h : Option Held) (n i : ℕ) : Type 0 where
  tied : (x : Waiter) → o ≡ Some (waiter_id i) → h ≡ Some (record { op = n; waiter = x }) → Link o h n i
  loose : o ≡ None → h ≡ None → Link o h n i

-- the line: every other node stands in it as before
pub record Lined (w w' : WaitList) (i : ℕ) : Type 0 where
  pub sound : wait.Sound w'
  pub stays : (k : ℕ) → (k ≡ i → ⊥) → Memᴰ k (line w) → Memᴰ k (line w')
  pub stood : (k : ℕ) → (k ≡ i → ⊥) → Memᴰ k (line w') → Memᴰ k (line w)
  pub stands : Memᴰ i (line w') → (op : ℕ) × (k : ℕ) × (held w' i ≡ Some (record { op = op; waiter = Waiting k }))
  pub lined : (op k : ℕ) → held w' i ≡ Some (record { op = op; waiter = Waiting k }) → Memᴰ i (line w')

module _ (t t' : List (Option Op)) (w w' : WaitList) (s : Ties t w) (n i : ℕ) (c : Only t t' w w' n i) where
  -- the node of another operation is another node
  apart : (op k : ℕ) → (op ≡ n → ⊥) → node_at t op ≡ Some (waiter_id k) → k ≡ i → ⊥
  apart op k d e q =
      let f = s.owned.forth op k e in
      d (c.was op f.0 (ap (held w) (sym q) ∙ f.1))

  -- every other operation is as it was
  pub deeds_slot : (k : ℕ) (op : Op) → (k ≡ n → ⊥) → get_or t k None ≡ Some op → deed_by w' op ≡ deed_by w op
  deeds_slot k op d e = deed_kept w w' op (λ j q. c.there j (apart k j d (ap node_in e ∙ q)))

  owned_slot : Link (node_at t' n) (held w' i) n i → Owned (node_at t') w'
  owned_slot l =
      record {
        forth = λ op k e. forth op k e (ℕ_discrete op n);
        back = λ k op x e. back k op x e (ℕ_discrete k i) (ℕ_discrete op n);
        few = λ op h. ap node_in (c.other op (λ e. omega (arith, c.small))) ∙ s.owned.few op h;
      }
    where
      mine : (k : ℕ) → Link (node_at t' n) (held w' i) n i → node_at t' n ≡ Some (waiter_id k) → (x : Waiter) × (held w' k ≡ Some (record { op = n; waiter = x }))
      mine k (tied x a b) e = (x, ap (held w') (sym (same_id i k (sym a ∙ e))) ∙ b)
      mine k (loose a b) e = absurd (no_id k (sym a ∙ e))

      forth : (op k : ℕ) → node_at t' op ≡ Some (waiter_id k) → Dec (op ≡ n) → (x : Waiter) × (held w' k ≡ Some (record { op = op; waiter = x }))
      forth op k e (yes q) =
          let m = mine k l (ap (node_at t') (sym q) ∙ e) in
          (m.0, m.1 ∙ ap (λ (j : ℕ). Some (record { op = j; waiter = m.0 })) (sym q))
      forth op k e (no d) =
          let e' : node_at t op ≡ Some (waiter_id k) = sym (ap node_in (c.other op d)) ∙ e in
          let f = s.owned.forth op k e' in
          (f.0, c.there k (apart op k d e') ∙ f.1)

      holder : (op : ℕ) (x : Waiter) → Link (node_at t' n) (held w' i) n i → held w' i ≡ Some (record { op = op; waiter = x }) → node_at t' op ≡ Some (waiter_id i)
      holder op x (tied y a b) e = ap (node_at t') (sym (same_op n op y x (sym b ∙ e))) ∙ a
      holder op x (loose a b) e = absurd (none-some _ (sym b ∙ e))

      back : (k op : ℕ) (x : Waiter) → held w' k ≡ Some (record { op = op; waiter = x }) → Dec (k ≡ i) → Dec (op ≡ n) → node_at t' op ≡ Some (waiter_id k)
      back k op x e (yes q) _ = holder op x l (ap (held w') (sym q) ∙ e) ∙ ap (λ (j : ℕ). Some (waiter_id j)) (sym q)
      back k op x e (no d) (yes q) =
          absurd (d (c.had k (ap (node_at t) (sym q) ∙ s.owned.back k op x (sym (c.there k d) ∙ e))))
      back k op x e (no d) (no d') = ap node_in (c.other op d') ∙ s.owned.back k op x (sym (c.there k d) ∙ e)

  pub ties_slot : Link (node_at t' n) (held w' i) n i → Lined w w' i → Ties t' w'
  ties_slot l m =
      record {
        sized = c.sized;
        list = m.sound;
        owned = owned_slot l;
        stands = λ k q. stands k q (ℕ_discrete k i);
        lined = λ k op x e. lined k op x e (ℕ_discrete k i);
      }
    where
      stands : (k : ℕ) → Memᴰ k (line w') → Dec (k ≡ i) → (op : ℕ) × (x : ℕ) × (held w' k ≡ Some (record { op = op; waiter = Waiting x }))
      stands k q (yes e) =
          let h = m.stands (subst (λ (j : ℕ). Memᴰ j (line w')) e q) in
          (h.0, h.1, ap (held w') e ∙ h.2)
      stands k q (no d) =
          let h = s.stands k (m.stood k d q) in
          (h.0, h.1, c.there k d ∙ h.2)

      lined : (k op x : ℕ) → held w' k ≡ Some (record { op = op; waiter = Waiting x }) → Dec (k ≡ i) → Memᴰ k (line w')
      lined k op x e (yes q) = subst (λ (j : ℕ). Memᴰ j (line w')) (sym q) (m.lined op x (ap (held w') (sym q) ∙ e))
      lined k op x e (no d) = m.stays k d (s.lined k op x (sym (c.there k d) ∙ e))

-- ---- where no operation's node changes, nor the wait list
pub ties_same : (t t' : List (Option Op)) (w : WaitList) → length t' ≡ 32 → ((k : ℕ) → node_at t' k ≡ node_at t k) → Ties t w → Ties t' w
ties_same t t' w e h s =
    record {
      sized = e;
      list = s.list;
      owned = record { forth = λ op i q. s.owned.forth op i (sym (h op) ∙ q); back = λ i op x q. h op ∙ s.owned.back i op x q; few = λ op q. h op ∙ s.owned.few op q };
      stands = s.stands;
      lined = s.lined;
    }

pub ties_set : (t : List (Option Op)) (w : WaitList) (n : ℕ) (o : Option Op) → node_at t n ≡ None → node_in o ≡ None → Ties t w → Ties (set t n o) w
ties_set t w n o e h s = ties_same t (set t n o) w (length-set t n o ∙ s.sized) (λ k. go k (ℕ_discrete k n) (dec_lt n (length t))) s
  where
    go : (k : ℕ) → Dec (k ≡ n) → Dec (n < length t) → node_at (set t n o) k ≡ node_at t k
    go k (yes q) (yes b) = ap (node_at (set t n o)) q ∙ (ap node_in (get_or-set_same t n o None b) ∙ (h ∙ (sym e ∙ ap (node_at t) (sym q))))
    go k (yes q) (no b) = ap (λ (l : List (Option Op)). node_at l k) (set_out t n o (omega arith))
    go k (no d) _ = ap node_in (get_or-set_other t n k o None d)

-- ---- stages
pub kept_some : (st : model.Stage) (k : ℕ) → k ∷ [] ≡ model.kept st → st ≡ model.waiting k
kept_some model.idle k e = let z : ◌≡◌ {A = ℕ} 0 1 = cc in absurd (omega arith)
kept_some (model.waiting t) k e = cc
kept_some model.called k e = let z : ◌≡◌ {A = ℕ} 0 1 = cc in absurd (omega arith)
kept_some model.void k e = let z : ◌≡◌ {A = ℕ} 0 1 = cc in absurd (omega arith)

-- an operation that is not in line joins the tail and gives no token back
pub kept_none : (st : model.Stage) (n t : ℕ) (l : List ℕ) → [] ≡ model.kept st → (model.place st n l ≡ l ++ (n ∷ [])) × ([] ≡ model.replaced st t)
kept_none model.idle n t l e = (refl, refl)
kept_none (model.waiting k) n t l e = let z : ◌≡◌ {A = ℕ} 0 1 = cc in absurd (omega arith)
kept_none model.called n t l e = (refl, refl)
kept_none model.void n t l e = (refl, refl)
