-- Promises determine. `parse` answers by an equation; any two answers of `print` end at one place and leave one buffer. Assumes nothing.
use Prim.Native.Nat.{ℕ}
use mathlib.Core.List.{List, ◌++◌}
use mathlib.Core.Path.{◌≡◌, sym, ap, ap₂, ◌∙◌}
use lib.ListN.{take, drop, take-append-drop}
use Rattle.lines.specs.Shown.{Put}

-- print
pub put_one : (old new new' : List ℕ) (at r r' : ℕ) (text : List ℕ) → Put old new at r text → Put old new' at r' text → (r ≡ r') × (new ≡ new')
put_one old new new' at r r' text p q =
    let e : r ≡ r' = p.ends ∙ sym q.ends in
    let front : take r new ≡ take r' new' = p.holds ∙ sym q.holds in
    let back : drop r new ≡ drop r' new' = p.beyond ∙ (ap (λ (n : ℕ). drop n old) e ∙ sym q.beyond) in
    (e, sym (take-append-drop r new) ∙ (ap₂ ◌++◌ front back ∙ take-append-drop r' new'))
