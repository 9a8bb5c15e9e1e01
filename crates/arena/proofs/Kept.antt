-- WHAT EVERY ARENA KEEPS, read from its ghost field. The field says only that it is so; the chain's slots are read off the cells, and of each
-- fact about them there is one proof at most.
-- Assumes nothing.
use Prim.Native.Nat.{ℕ}
use Rattle.std.specs.Prelude.{Option}
use mathlib.Core.Path.{◌≡◌, sym, ap, ap₂, ◌∙◌, subst}
use mathlib.Core.Logic.{∥∥₁_elim, ⊎_elim}
use mathlib.Core.HLevel.{⊥_prop, ×_prop, ¬_prop, Unit-prop}
use mathlib.Core.List.{List, [], ◌∷◌, Memᴰ}
use native.Mathlib.Omega.{arith}
use lib.ListN.{length}
use Rattle.std.proofs.Props.{props}
use Rattle.arena.specs.declared.SlotId.{SlotId}
use Rattle.arena.specs.declared.Cell.{Cell}
use Rattle.arena.specs.declared.Arena.{Arena}
use Rattle.arena.specs.Lists.{NoDup}
use Rattle.arena.specs.View.{link_of, chain}
use Rattle.arena.specs.Sound.{Link, Chain, SoundBy, Sound}
use Rattle.arena.proofs.Lists.{mem?}
use Rattle.arena.proofs.Chains.{chain_is}

-- ---- of each fact there is one proof at most
pub NoDup-prop : (l : List ℕ) → IsProp (NoDup l)
NoDup-prop [] = Unit-prop
NoDup-prop (x ∷ l) = ×_prop ¬_prop (NoDup-prop l)

Link-prop : (cells : List Cell) (used : ℕ) (h : Option SlotId) (i : ℕ) (next : Option SlotId) → IsProp (Link cells used h i next)
Link-prop cells used h i next = hlevel props

-- two chains through the same slots have the same links
same_chain :
    (cells : List Cell) (used : ℕ) (h : Option SlotId) (i : ℕ) (v : List ℕ) →
    ((next : Option SlotId) → IsProp (Chain cells used next v)) →
    (m n : Option SlotId) → m ≡ n →
    (k : Link cells used h i m) (c : Chain cells used m v) (l : Link cells used h i n) (d : Chain cells used n v) →
    ◌≡◌ {A = Chain cells used h (i ∷ v)} (m, k, c) (n, l, d)
same_chain cells used h i v one m n e k c =
    subst
    (λ (n : Option SlotId). (l : Link cells used h i n) (d : Chain cells used n v) → ◌≡◌ {A = Chain cells used h (i ∷ v)} (m, k, c) (n, l, d))
    e
    (λ l d. ap₂ (λ (l : Link cells used h i m) (d : Chain cells used m v). (m, l, d)) (Link-prop cells used h i m k l) (one m c d))

Chain-prop : (cells : List Cell) (used : ℕ) (h : Option SlotId) (v : List ℕ) → IsProp (Chain cells used h v)
Chain-prop cells used h [] = hlevel props
Chain-prop cells used h (i ∷ v) =
    λ a b. same_chain cells used h i v (λ next. Chain-prop cells used next v) a.0 b.0 (ap link_of (sym a.1.vacant ∙ b.1.vacant)) a.1 a.2 b.1 b.2

-- ---- the slots of the chain are those that are read off the cells
vacant_is : (cells : List Cell) (used len : ℕ) (h : Option SlotId) (s : SoundBy cells used h len) → chain 32 cells h ≡ s.vacant
vacant_is cells used len h s = chain_is cells used 32 h s.vacant s.chain (omega (arith, s.count, s.most))

module _ (cells : List Cell) (used len : ℕ) (h : Option SlotId) (kept : ∥ SoundBy cells used h len ∥₁) where
  abbrev slots : List ℕ
  slots = chain 32 cells h

  abbrev is : (s : SoundBy cells used h len) → s.vacant ≡ slots
  is s = sym (vacant_is cells used len h s)

  pub sound_by : SoundBy cells used h len
  sound_by =
      record {
        vacant = slots;
        size = ∥∥₁_elim kept (hlevel props) (λ s. s.size);
        chain = ∥∥₁_elim kept (Chain-prop cells used h slots) (λ s. subst (Chain cells used h) (is s) s.chain);
        once = ∥∥₁_elim kept (NoDup-prop slots) (λ s. subst NoDup (is s) s.once);
        chained = λ i p v.
            ⊎_elim (λ m. m)
            (λ n. absurd (∥∥₁_elim kept ⊥_prop (λ s. n (subst (Memᴰ i) (is s) (s.chained i p v)))))
            (mem? i slots);
        unused = λ i p. ∥∥₁_elim kept (hlevel props) (λ s. s.unused i p);
        count = ∥∥₁_elim kept (hlevel props) (λ s. omega (arith, s.count, ap length (is s)));
        most = ∥∥₁_elim kept (hlevel props) (λ s. s.most);
      }

-- every arena is sound
pub sound_of : (a : Arena) → Sound a
sound_of a = sound_by a.cells a.used a.len a.vacant_head a.sound
