-- THE LINKS OF THE NODES: how a line goes through an arena, what the steps of relinking do, and what every wait list keeps, said over its fields.
-- Assumes nothing.
use Rattle.std.specs.Prelude.{ℕ, zero, suc, ◌≡◌, List, [], ◌∷◌, Option, Some, None, option_map}
use Rattle.arena.specs.declared.Links.{Links}
use Rattle.arena.specs.declared.Node.{Node}
use Rattle.arena.specs.declared.WaiterId.{WaiterId}
use Rattle.arena.specs.declared.Arena.{Arena}
use Rattle.arena.specs.Lists.{NotIn, NoDup}
use Rattle.arena.specs.View.{slot_id, at, spare}
use Rattle.arena.specs.Sound as arena
use Rattle.waitlist.specs.declared.Held.{Held}

abbrev pub waiter_id : ℕ → WaiterId
waiter_id i = record { 0 = slot_id i }

-- what a node holds
abbrev pub held_of : Option Node → Option Held
held_of None = None
held_of (Some n) = Some (record { op = n.op; waiter = n.waiter })

-- ---- its links
abbrev pub links_of : Option Node → Option Links
links_of None = None
links_of (Some n) = n.links

abbrev pub links_in : Arena → ℕ → Option Links
links_in a k = links_of (at a k)

abbrev pub prev_of : Option Links → Option WaiterId
prev_of None = None
prev_of (Some l) = l.prev

abbrev pub next_of : Option Links → Option WaiterId
next_of None = None
next_of (Some l) = l.next

abbrev pub set_next : Option WaiterId → Option Links → Option Links
set_next x o = option_map (λ (l : Links). record { prev = l.prev; next = x }) o

abbrev pub set_prev : Option WaiterId → Option Links → Option Links
set_prev x o = option_map (λ (l : Links). record { prev = x; next = l.next }) o

-- an end of the line, `old`, after a node beside it went: `side` is that node's neighbour on this side
abbrev pub end_after : Option WaiterId → Option WaiterId → Option WaiterId → Option WaiterId
end_after old None other = other
end_after old (Some x) other = old

-- ---- the steps of relinking
-- r is a with the links x in the node i, if there is one
pub record Rewrites (a : Arena) (i : ℕ) (x : Option Links) (r : Arena) : Type 0 where
  pub held : (k : ℕ) → held_of (at r k) ≡ held_of (at a k)
  pub here : (n : Node) → at a i ≡ Some n → links_of (at r i) ≡ x
  pub there : (k : ℕ) → (k ≡ i → ⊥) → links_of (at r k) ≡ links_of (at a k)
  pub len : r.len ≡ a.len
  pub order : spare r ≡ spare a

-- r is a with the links of the node that p names changed by f, and nothing else
pub record Relinked (f : Option Links → Option Links) (a : Arena) (p : Option WaiterId) (r : Arena) : Type 0 where
  pub held : (k : ℕ) → held_of (at r k) ≡ held_of (at a k)
  pub here : (k : ℕ) → p ≡ Some (waiter_id k) → links_of (at r k) ≡ f (links_of (at a k))
  pub there : (k : ℕ) → (p ≡ Some (waiter_id k) → ⊥) → links_of (at r k) ≡ links_of (at a k)
  pub len : r.len ≡ a.len
  pub order : spare r ≡ spare a

-- the same of a step that answers as f does, whichever function f that is
abbrev pub ChangesLinks : (Links → Links → Type 0) → Arena → Option WaiterId → Arena → Type 0
ChangesLinks step a p r = (f : Links → Links) → ((l m : Links) → step l m → m ≡ f l) → Relinked (option_map f) a p r

-- ---- the line
-- the slots from h on by the `next` links, f at most
unfoldable pub walk : ℕ → (ℕ → Option Links) → Option WaiterId → List ℕ
walk zero links h = []
walk (suc f) links None = []
walk (suc f) links (Some x) = x.0.0 ∷ walk f links (next_of (links x.0.0))

-- the first of a list, and p where it has none
abbrev pub first_of : List ℕ → Option WaiterId → Option WaiterId
first_of [] p = p
first_of (i ∷ l) p = Some (waiter_id i)

-- the last of a list, and p where it has none
abbrev pub last_of : List ℕ → Option WaiterId → Option WaiterId
last_of [] p = p
last_of (i ∷ l) p = last_of l (Some (waiter_id i))

-- the nodes of the list l are linked in its order, with p before the first of them and n after the last
abbrev pub Seg : (ℕ → Option Links) → Option WaiterId → List ℕ → Option WaiterId → Type 0
Seg links p [] n = Unit {0}
Seg links p (i ∷ l) n = (links i ≡ Some (record { prev = p; next = first_of l n })) × Seg links (Some (waiter_id i)) l n

-- what the fields of every wait list keep: the line from h to t, through the nodes of a
pub record SoundBy (h t : Option WaiterId) (a : Arena) : Type 0 where
  pub nodes : arena.Sound a
  -- the line: `line w` is this list (the law `line_order`)
  pub order : List ℕ
  pub once : NoDup order
  pub linked : Seg (links_in a) None order None
  -- and no other node is linked
  pub apart : (k : ℕ) → NotIn k order → links_in a k ≡ None
  pub head : h ≡ first_of order None
  pub tail : t ≡ last_of order None
