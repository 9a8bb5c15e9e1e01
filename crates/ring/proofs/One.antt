-- Promises determine: any two rings that a promise allows have the same values, and any two fronts are equal. (`len` answers by an
-- equation.) Assumes nothing.
use mathlib.Core.List.{List}
use mathlib.Core.Path.{◌≡◌, sym, ◌∙◌}
use Prim.Native.Nat.{ℕ}
use Rattle.ring.specs.declared.Ring.{Ring}
use Rattle.ring.specs.declared.Popped.{Popped}
use Rattle.ring.specs.Values.{values, Holds, Pops}

-- fresh, clear, push_back
pub holds_one : (l : List ℕ) (r t : Ring) → Holds l r → Holds l t → values r ≡ values t
holds_one l r t p q = p.1 ∙ sym q.1

-- pop_front
pub pops_one : (l : List ℕ) (r t : Popped) → Pops l r → Pops l t → (r.front ≡ t.front) × (values r.next ≡ values t.next)
pops_one l r t p q = (p.0 ∙ sym q.0, p.2 ∙ sym q.2)
