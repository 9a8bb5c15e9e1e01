-- WHAT EVERY SIDE KEEPS, read from its ghost field. The field says only that it is so; who waits in a node is read off the node, and whether a node
-- is in line is decided. Assumes nothing.
use Prim.Native.Nat.{ℕ}
use mathlib.Core.Path.{◌≡◌, refl, sym, ap, ◌∙◌}
use mathlib.Core.Logic.{∥∥₁_elim, ⊎_elim}
use mathlib.Core.HLevel.{⊥_prop}
use mathlib.Core.List.{List, Memᴰ}
use native.Mathlib.Omega.{arith}
use Rattle.std.proofs.Props.{props}
use Rattle.std.proofs.lemmas.Option.{same_Some, none-some}
use Rattle.std.specs.Prelude.{Option, None, Some}
use Rattle.arena.specs.declared.Waiter.{Waiter}
use Rattle.arena.specs.declared.Waiter.TheVariants.{Waiting, Called}
use Rattle.arena.proofs.Lists.{mem?}
use Rattle.waitlist.specs.declared.WaitList.{WaitList}
use Rattle.waitlist.specs.declared.Held.{Held}
use Rattle.waitlist.specs.View.{held, line}
use Rattle.waitlist.proofs.Kept as wait
use Rattle.tables.specs.declared.Places.{Places}
use Rattle.side.specs.declared.Op.{Op}
use Rattle.side.specs.declared.Side.{Side}
use Rattle.side.specs.Operations.{SoundBy}
use Rattle.live.specs.Bits.{live_of}
use Rattle.live.specs.Table.{held as table}
use Rattle.side.specs.Sound.{Sound}

module _ (w : WaitList) (ops : List Op) (p : Places) (kept : ∥ SoundBy w ops p ∥₁) where
  abbrev rows : List (Option Op)
  rows = table (live_of p.live) ops

  -- what is held where a node is known to hold something of the operation op
  holder : (i op : ℕ) → ((s : SoundBy w ops p) → (x : Waiter) × (held w i ≡ Some (record { op = op; waiter = x })))
      → (x : Waiter) × (held w i ≡ Some (record { op = op; waiter = x }))
  holder i op f = by (held w i) refl
    where
      by : (h : Option Held) → held w i ≡ h → (x : Waiter) × (held w i ≡ Some (record { op = op; waiter = x }))
      by None q = absurd (∥∥₁_elim kept ⊥_prop (λ s. none-some _ (sym q ∙ (f s).1)))
      by (Some h) q = (
        h.waiter,
        ∥∥₁_elim kept (hlevel props) (λ s.
            let g = f s in
            let e = same_Some h (record { op = op; waiter = g.0 }) (sym q ∙ g.1) in
            g.1 ∙ ap (λ (x : Waiter). Some (record { op = op; waiter = x })) (sym (ap (λ (y : Held). y.waiter) e))),
      )

  -- and where the one in it is known to be waiting
  stander : (i : ℕ) → Memᴰ i (line w) → (op : ℕ) × (k : ℕ) × (held w i ≡ Some (record { op = op; waiter = Waiting k }))
  stander i m = by (held w i) refl
    where
      waits : (op : ℕ) (x : Waiter) → held w i ≡ Some (record { op = op; waiter = x }) → (op : ℕ) × (k : ℕ) × (held w i ≡ Some (record { op = op; waiter = Waiting k }))
      waits op (Waiting k) q = (op, k, q)
      waits op Called q =
          absurd (∥∥₁_elim kept ⊥_prop (λ s.
          let g = s.ties.stands i m in
          let r : Called ≡ Waiting g.1 = ap (λ (y : Held). y.waiter) (same_Some (record { op = op; waiter = Called }) (record { op = g.0; waiter = Waiting g.1 }) (sym q ∙ g.2)) in
          called_waits g.1 r))
        where
          called_waits : (k : ℕ) → Called ≡ Waiting k → ⊥
          called_waits k r = let z : ◌≡◌ {A = ℕ} 0 1 = cc r in absurd (omega arith)

      by : (h : Option Held) → held w i ≡ h → (op : ℕ) × (k : ℕ) × (held w i ≡ Some (record { op = op; waiter = Waiting k }))
      by None q = absurd (∥∥₁_elim kept ⊥_prop (λ s. none-some _ (sym q ∙ (s.ties.stands i m).2)))
      by (Some h) q = waits h.op h.waiter q

  pub sound_by : SoundBy w ops p
  sound_by =
      record {
        used = ∥∥₁_elim kept (hlevel props) (λ s. s.used);
        wiped = λ k e. ∥∥₁_elim kept (hlevel props) (λ s. s.wiped k e);
        ties = record {
          sized = ∥∥₁_elim kept (hlevel props) (λ s. s.ties.sized);
          list = wait.sound_of w;
          owned = record {
            forth = λ op i e. holder i op (λ s. s.ties.owned.forth op i e);
            back = λ i op x e. ∥∥₁_elim kept (hlevel props) (λ s. s.ties.owned.back i op x e);
            few = λ op h. ∥∥₁_elim kept (hlevel props) (λ s. s.ties.owned.few op h);
          };
          stands = stander;
          lined = λ i op k e. ⊎_elim (λ m. m) (λ n. absurd (∥∥₁_elim kept ⊥_prop (λ s. n (s.ties.lined i op k e)))) (mem? i (line w));
        };
      }

-- every side is sound
pub sound_of : (s : Side) → Sound s
sound_of s = sound_by s.waiters s.ops s.places s.sound
