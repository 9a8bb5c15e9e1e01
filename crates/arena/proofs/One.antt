-- Promises determine: two arenas of one meaning answer alike, whatever answers the promises allow, and have one meaning again.
-- Assumes nothing.
use Prim.Native.Nat.{ℕ}
use Rattle.std.specs.Prelude.{Option, Some, None}
use mathlib.Core.Path.{◌≡◌, refl, sym, ap, ◌∙◌}
use mathlib.Core.List.{List, ◌∷◌}
use native.Mathlib.Decide.{dec_lt, ℕ_discrete}
use native.Mathlib.Omega.{arith}
use lib.ListN.{get_or, drop}
use Rattle.arena.specs.declared.Node.{Node}
use Rattle.arena.specs.declared.Arena.{Arena}
use Rattle.arena.specs.declared.Inserted.{Inserted}
use Rattle.arena.specs.declared.Removed.{Removed}
use Rattle.arena.specs.View.{slot_id, at, spare}
use Rattle.arena.specs.Calls.{Fresh, Wrote, given, Placed, Inserts, Sets, Removes}

-- two arenas of one meaning
pub record Same (a b : Arena) : Type 0 where
  pub holds : (k : ℕ) → at a k ≡ at b k
  pub orders : spare a ≡ spare b
  pub counts : a.len ≡ b.len

pub new_one : (r t : Arena) → Fresh r → Fresh t → Same r t
new_one r t p q =
    record { holds = λ k. p.empty k ∙ sym (q.empty k); orders = p.order ∙ sym q.order; counts = p.len ∙ sym q.len }

module _ (a b : Arena) (s : Same a b) where
  -- get
  pub get_one : (i : ℕ) (r t : Option Node) → r ≡ at a i → t ≡ at b i → r ≡ t
  get_one i r t p q = p ∙ s.holds i ∙ sym q

  -- what was written at one place in both
  wrote_one : (i j : ℕ) (x : Option Node) (r t : Arena) → i ≡ j → Wrote a i x r → Wrote b j x t → (k : ℕ) → at r k ≡ at t k
  wrote_one i j x r t e v w k =
      elim (ℕ_discrete k i) [
        | yes h ↦ ap (at r) h ∙ v.here ∙ sym w.here ∙ ap (at t) (sym (h ∙ e))
        | no h ↦ v.there k h ∙ s.holds k ∙ sym (w.there k (λ u. h (u ∙ sym e)))
      ]

  same_given : given a ≡ given b
  unfolding given
  same_given = ap (λ (l : List ℕ). get_or l 0 0) s.orders

  pub insert_one : (n : Node) (r t : Inserted) → Inserts a n r → Inserts b n t → (r.id ≡ t.id) × Same r.arena t.arena
  insert_one n r t p q =
      elim (dec_lt a.len 32) [
        | yes h ↦ placed (p.placed h) (q.placed (omega (arith, s.counts)))
        | no h ↦ refused (p.refused (omega arith)) (q.refused (omega (arith, s.counts)))
      ]
    where
      placed : Placed a n r → Placed b n t → (r.id ≡ t.id) × Same r.arena t.arena
      placed v w = (
        v.id ∙ ap (λ (i : ℕ). Some (slot_id i)) same_given ∙ sym w.id,
        record {
          holds = wrote_one (given a) (given b) (Some n) r.arena t.arena same_given v.wrote w.wrote;
          orders = ap (drop 1) (sym v.order ∙ s.orders ∙ w.order);
          counts = omega (arith, v.len, w.len, s.counts);
        },
      )

      refused : r ≡ record { id = None; arena = a } → t ≡ record { id = None; arena = b } → (r.id ≡ t.id) × Same r.arena t.arena
      refused v w = (
        ap (λ (x : Inserted). x.id) v ∙ sym (ap (λ (x : Inserted). x.id) w),
        record {
          holds = λ k. ap (λ (x : Inserted). at x.arena k) v ∙ s.holds k ∙ sym (ap (λ (x : Inserted). at x.arena k) w);
          orders = ap (λ (x : Inserted). spare x.arena) v ∙ s.orders ∙ sym (ap (λ (x : Inserted). spare x.arena) w);
          counts = ap (λ (x : Inserted). x.arena.len) v ∙ s.counts ∙ sym (ap (λ (x : Inserted). x.arena.len) w);
        },
      )

  pub set_one : (i : ℕ) (n : Node) (r t : Arena) → Sets a i n r → Sets b i n t → Same r t
  set_one i n r t p q =
      record {
        holds = by (at a i) refl;
        orders = p.order ∙ s.orders ∙ sym q.order;
        counts = p.len ∙ s.counts ∙ sym q.len;
      }
    where
      by : (g : Option Node) → at a i ≡ g → (k : ℕ) → at r k ≡ at t k
      by None e k =
          ap (λ (x : Arena). at x k) (p.refused e) ∙ s.holds k ∙ sym (ap (λ (x : Arena). at x k) (q.refused (sym (s.holds i) ∙ e)))
      by (Some m) e k = wrote_one i i (Some n) r t refl (p.wrote m e) (q.wrote m (sym (s.holds i) ∙ e)) k

  pub remove_one : (i : ℕ) (r t : Removed) → Removes a i r → Removes b i t → (r.node ≡ t.node) × Same r.arena t.arena
  remove_one i r t p q = (
    p.node ∙ s.holds i ∙ sym q.node,
    record {
      holds = wrote_one i i None r.arena t.arena refl p.wrote q.wrote;
      orders = orders (at a i) refl;
      counts = counts (at a i) refl;
    },
  )
    where
      orders : (g : Option Node) → at a i ≡ g → spare r.arena ≡ spare t.arena
      orders None e = ap spare (p.refused e) ∙ s.orders ∙ sym (ap spare (q.refused (sym (s.holds i) ∙ e)))
      orders (Some m) e =
          p.order m e ∙ ap (λ (l : List ℕ). i ∷ l) s.orders ∙ sym (q.order m (sym (s.holds i) ∙ e))

      counts : (g : Option Node) → at a i ≡ g → r.arena.len ≡ t.arena.len
      counts None e =
          ap (λ (x : Arena). x.len) (p.refused e) ∙ s.counts ∙ sym (ap (λ (x : Arena). x.len) (q.refused (sym (s.holds i) ∙ e)))
      counts (Some m) e = omega (arith, p.len m e, q.len m (sym (s.holds i) ∙ e), s.counts)
