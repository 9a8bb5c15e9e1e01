-- WHAT EACH METHOD OF A SIDE DOES, by the model's move of that name. Assumes nothing.
use Rattle.std.specs.Prelude.{ℕ, ◌%◌, ◌≡◌, [], ◌∷◌, ◌++◌, take}
use Rattle.std.specs.Prelude.{Option, None, Some, option_map, option_to_list}
use Rattle.model.specs.Table.{blank, lookup, put, lowest}
use Rattle.model.specs.Side as model
use Rattle.model.specs.Queue.{Job}
use Rattle.wakes.specs.Tokens.{tokens_of}
use Rattle.tables.specs.declared.Opened.{Opened}
use Rattle.side.specs.declared.Side.{Side}
use Rattle.side.specs.declared.Entry.{Entry}
use Rattle.side.specs.declared.Pended.{Pended}
use Rattle.side.specs.declared.CalledOne.{CalledOne}
use Rattle.side.specs.declared.Closed.{Closed}
use Rattle.side.specs.Meaning.{Deed, carried, table_of, side_of, deed_of}
use Rattle.side.specs.Sound.{Sound, node_at}
pub use Rattle.side.specs.Operations.{Leaves, Refreshed, woken_of}

-- operation n is open; it has no node
abbrev pub Open : Side → ℕ → Type 0
Open s n = (op : Deed) × (lookup (side_of s).ops n ≡ Some op)

abbrev pub Alone : Side → ℕ → Type 0
Alone s n = node_at (table_of s) (n % 64) ≡ None

pub record Fresh (r : Side) : Type 0 where
  pub sound : Sound r
  pub side : side_of r ≡ record { ops = blank 32; line = [] }

abbrev pub Sees : Side → ℕ → Option Entry → Type 0
Sees s n r = option_map deed_of r ≡ lookup (side_of s).ops n

-- ---- open
abbrev pub opened_if : Option ℕ → ℕ → Job → model.Side Job → model.Side Job
opened_if None h j q = q
opened_if (Some n) h j q = model.opened n h j q

pub record Opens (s : Side) (h : ℕ) (j : Option ℕ) (r : Opened Side) : Type 0 where
  pub sound : Sound r.next
  pub number : r.number ≡ lowest (side_of s).ops
  pub side : side_of r.next ≡ opened_if r.number h (carried j) (side_of s)

-- ---- end
pub record Ends (s : Side) (n : ℕ) (r : Side) : Type 0 where
  pub sound : Sound r
  pub side : side_of r ≡ model.ended n (side_of s)

-- ---- pend
pub record Pends (s : Side) (n t : ℕ) (r : Pended) : Type 0 where
  pub sound : Sound r.side
  pub side : (op : Deed) → lookup (side_of s).ops n ≡ Some op → side_of r.side ≡ model.pended op.stage n t (side_of s)
  pub retired : (op : Deed) → lookup (side_of s).ops n ≡ Some op → option_to_list r.retired ≡ model.replaced op.stage t

-- ---- call_first
pub record CallsOne (s : Side) (r : CalledOne) : Type 0 where
  pub sound : Sound r.side
  pub side : side_of r.side ≡ model.call_first (side_of s)
  pub woken : option_to_list (option_map (λ w. w.token) r.woken) ≡ model.first_token (side_of s)
  pub number : option_to_list (option_map (λ w. w.number) r.woken) ≡ take 1 (side_of s).line

-- ---- close_line
pub record Closes (s : Side) (r : Closed) : Type 0 where
  pub sound : Sound r.side
  pub side : side_of r.side ≡ model.closed_line (side_of s)
  pub wakes : tokens_of r.wakes ≡ model.all_tokens (side_of s)

-- ---- the steps inside
-- operation n is at some stage, has no node and is not in line; nothing else changes
pub record Detached (s : Side) (n : ℕ) (op : Deed) (r : Side) : Type 0 where
  pub stage : model.Stage
  pub side : side_of r ≡ record { ops = put (side_of s).ops n (model.re_stage (λ old. stage) op); line = model.without n (side_of s).line }

pub record Detaches (s : Side) (n : ℕ) (r : Side) : Type 0 where
  pub sound : Sound r
  pub alone : Alone r n
  pub side : (op : Deed) → lookup (side_of s).ops n ≡ Some op → Detached s n op r

-- operation n waits at the end of the line
pub record Joins (s : Side) (n t : ℕ) (r : Side) : Type 0 where
  pub sound : Sound r
  pub side : side_of r ≡ record { ops = model.mark n (model.waiting t) (side_of s).ops; line = (side_of s).line ++ (n ∷ []) }
