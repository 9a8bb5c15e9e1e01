-- THE CELLS OF AN ARENA: what a cell holds, the chain of the vacant ones, and what every arena keeps, said over its fields.
-- Assumes nothing.
use Rattle.std.specs.Prelude.{ℕ, zero, suc, ◌+◌, ◌≤◌, ◌<◌, ◌≡◌, length, get_or, Option, Some, None}
use mathlib.Core.List.{List, [], ◌∷◌, Memᴰ}
use Rattle.arena.specs.declared.Node.{Node}
use Rattle.arena.specs.declared.SlotId.{SlotId}
use Rattle.arena.specs.declared.Slot.{Slot}
use Rattle.arena.specs.declared.Slot.TheVariants.{Occupied, Vacant}
use Rattle.arena.specs.declared.Cell.{Cell}
use Rattle.arena.specs.Lists.{NoDup}

abbrev pub slot_id : ℕ → SlotId
slot_id i = record { 0 = i }

-- a cell as `new` makes it, which also stands for what lies past the end
abbrev pub blank : Cell
blank = record { slot = Vacant None }

abbrev pub holds : Slot → Option Node
holds (Occupied n) = Some n
holds (Vacant next) = None

abbrev pub seen : List Cell → ℕ → Option Node
seen cells i = holds (get_or cells i blank).slot

-- where a vacant slot leads
abbrev pub link_of : Slot → Option SlotId
link_of (Occupied n) = None
link_of (Vacant next) = next

-- the slots of the chain that starts at h, f of them at most
unfoldable pub chain : ℕ → List Cell → Option SlotId → List ℕ
chain zero cells h = []
chain (suc f) cells None = []
chain (suc f) cells (Some s) = s.0 ∷ chain f cells (link_of (get_or cells s.0 blank).slot)

-- one step of the chain: the link h leads to slot i, which was used before, is vacant and leads on to `next`
pub record Link (cells : List Cell) (used : ℕ) (h : Option SlotId) (i : ℕ) (next : Option SlotId) : Type 0 where
  pub here : h ≡ Some (slot_id i)
  pub old : i < used
  pub vacant : (get_or cells i blank).slot ≡ Vacant next

-- the chain that starts at h goes through the slots of the list and ends
abbrev pub Chain : List Cell → ℕ → Option SlotId → List ℕ → Type 0
Chain cells used h [] = h ≡ None
Chain cells used h (i ∷ v) =
    (next : Option SlotId) × Link cells used h i next × Chain cells used next v

-- what the fields of every arena keep
pub record SoundBy (cells : List Cell) (used : ℕ) (vacant_head : Option SlotId) (len : ℕ) : Type 0 where
  -- the vacant slots among those used before, in the order in which they will be given
  pub vacant : List ℕ
  pub size : length cells ≡ 32
  pub chain : Chain cells used vacant_head vacant
  pub once : NoDup vacant
  -- the chain has every one of them
  pub chained : (i : ℕ) → i < used → seen cells i ≡ None → Memᴰ i vacant
  -- a slot that was never used is vacant
  pub unused : (i : ℕ) → used ≤ i → seen cells i ≡ None
  pub count : len + length vacant ≡ used
  pub most : used ≤ 32
