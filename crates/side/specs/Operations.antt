-- OPERATIONS AND THE NODES THEY WAIT IN: what a record means, what the steps on a wait list do, and what every side keeps, said over its fields.
-- Assumes nothing.
use Rattle.std.specs.Prelude.{ℕ, ◌+◌, ◌*◌, ◌≡◌, Bool, false, List, map, length, get_or, if◌then◌else◌}
use Rattle.std.specs.Prelude.{Option, None, Some, unwrap_or, is_some}
use mathlib.Core.List.{Memᴰ}
use Rattle.std.specs.Bool.{then_some}
use Rattle.arena.specs.declared.WaiterId.{WaiterId}
use Rattle.arena.specs.declared.Waiter.{Waiter}
use Rattle.arena.specs.declared.Waiter.TheVariants.{Waiting, Called}
use Rattle.arena.specs.Lists as lists
use Rattle.waitlist.specs.declared.WaitList.{WaitList}
use Rattle.waitlist.specs.declared.Held.{Held}
use Rattle.waitlist.specs.View.{waiter_id, held, line, along, op_of}
use Rattle.waitlist.specs.Sound as wait
use Rattle.waitlist.specs.Calls.{Refreshes}
use Rattle.waitlist.specs.Owners.{Owned}
use Rattle.live.specs.Bits.{live_of}
use Rattle.live.specs.Table.{held as table}
use Rattle.model.specs.Side as model
use Rattle.model.specs.Queue.{Job, bare, carrying}
use Rattle.model.specs.Side.{idle, waiting, called, void}
use Rattle.tables.specs.declared.Places.{Places}
use Rattle.tables.specs.Places.{Used}
use Rattle.side.specs.declared.Mark.{Mark}
use Rattle.side.specs.declared.Mark.TheVariants.{Idle, At, Void}
use Rattle.side.specs.declared.Op.{Op}
use Rattle.side.specs.declared.Stage.{Stage}
use Rattle.side.specs.declared.Stage.TheVariants.{Idle as SIdle, Waiting as SWaiting, Called as SCalled, Void as SVoid}
use Rattle.side.specs.declared.Entry.{Entry}
use Rattle.side.specs.declared.Woken.{Woken}

-- an operation of the model
abbrev pub Deed : Type 0
Deed = model.Op Job

abbrev pub carried : Option ℕ → Job
carried None = bare
carried (Some v) = carrying v

-- what an operation's record says that it carries
abbrev pub cargo_of : Op → Option ℕ
cargo_of op = then_some op.carries op.value

-- the record of an operation that is not polled yet, at the turn k of its place
abbrev pub idle_op : ℕ → Option ℕ → ℕ → Op
idle_op h j k = record { value = unwrap_or j 0; owner = h; turn = k; carries = is_some j; mark = Idle }

-- what stands at a place with no operation, of which k turns are over
abbrev pub blank_op : ℕ → Op
blank_op k = idle_op 0 None k

-- what stands at a place that was never used (and what a read past the end of the table stands for)
abbrev pub fresh_op : Op
fresh_op = blank_op 0

abbrev pub turn_of : Op → ℕ
turn_of op = op.turn

-- the number of the operation at a place; of the operation that a node belongs to
abbrev pub number_at : List Op → ℕ → ℕ
number_at ops place = place + 64 * turn_of (get_or ops place fresh_op)

abbrev pub number_in : List Op → Option Held → ℕ
number_in ops node = number_at ops (op_of node)

-- the stage that a waiter tells, and that a node does (where there is no node: void; never asked of a sound side)
abbrev pub told_by : Waiter → model.Stage
told_by (Waiting t) = waiting t
told_by Called = called

abbrev pub stage_in : Option Held → model.Stage
stage_in None = void
stage_in (Some h) = told_by h.waiter

abbrev pub stage_by : WaitList → Mark → model.Stage
stage_by w Idle = idle
stage_by w (At id) = stage_in (held w id.0.0)
stage_by w Void = void

abbrev pub deed_by : WaitList → Op → Deed
deed_by w op = record { owner = op.owner; job = carried (cargo_of op); stage = stage_by w op.mark }

-- ---- answers
abbrev pub stage_of : Stage → model.Stage
stage_of SIdle = idle
stage_of (SWaiting t) = waiting t
stage_of SCalled = called
stage_of SVoid = void

abbrev pub deed_of : Entry → Deed
deed_of e = record { owner = e.owner; job = carried e.cargo; stage = stage_of e.stage }

-- ---- an operation as its line is closed for good
abbrev pub void_mark : Mark → Mark
void_mark Idle = Idle
void_mark (At id) = Void
void_mark Void = Void

abbrev pub voided : Op → Op
voided op = record { value = op.value; owner = op.owner; turn = op.turn; carries = op.carries; mark = void_mark op.mark }

-- ---- a test of an entry tells of the operation what the model's counts take it for, 1 or 0
abbrev pub Tests : (Entry → Bool → Type 0) → (Deed → ℕ) → Type 0
Tests says counts = (e : Entry) (b : Bool) → says e b → counts (deed_of e) ≡ (if b then 1 else 0)

-- operation n, whose waiter this was, was called
abbrev pub woken_of : ℕ → Waiter → Option Woken
woken_of n (Waiting t) = Some (record { number = n; token = t })
woken_of n Called = None

-- ---- the node of an operation
-- the node of an operation, which is named by its place here
abbrev pub node_of : Mark → Option WaiterId
node_of Idle = None
node_of (At id) = Some id
node_of Void = None

abbrev pub node_in : Option Op → Option WaiterId
node_in None = None
node_in (Some op) = node_of op.mark

abbrev pub node_at : List (Option Op) → ℕ → Option WaiterId
node_at t n = node_in (get_or t n None)

-- ---- the steps on a wait list
-- a node goes from the wait list
pub record Leaves (w : WaitList) (i : ℕ) (r : WaitList) : Type 0 where
  pub sound : wait.Sound r
  pub here : held r i ≡ None
  pub there : (k : ℕ) → (k ≡ i → ⊥) → held r k ≡ held w k
  pub reads : (f : Option Held → ℕ) → along f r ≡ map (λ (k : ℕ). f (held w k)) (lists.without i (line w))
  pub line : line r ≡ lists.without i (line w)

abbrev pub Refreshed : WaitList → Mark → ℕ → WaitList → Type 0
Refreshed w m t r = (i : ℕ) → node_of m ≡ Some (waiter_id i) → Refreshes w i (Waiting t) r

-- ---- what every side keeps
-- a table of operations beside a wait list
pub record Ties (t : List (Option Op)) (w : WaitList) : Type 0 where
  pub sized : length t ≡ 32
  pub list : wait.Sound w
  -- an operation's node holds its place, and a node's operation has that node
  pub owned : Owned (node_at t) w
  -- a node is in line just where its waiter is waiting
  pub stands : (i : ℕ) → Memᴰ i (line w) → (op : ℕ) × (k : ℕ) × (held w i ≡ Some (record { op = op; waiter = Waiting k }))
  pub lined : (i op k : ℕ) → held w i ≡ Some (record { op = op; waiter = Waiting k }) → Memᴰ i (line w)

-- a place that is not live holds its turn and nothing else: no value of an operation that ended
abbrev pub Wiped : List Bool → List Op → Type 0
Wiped live ops = (p : ℕ) → get_or live p false ≡ false → get_or ops p fresh_op ≡ blank_op (turn_of (get_or ops p fresh_op))

pub record SoundBy (w : WaitList) (ops : List Op) (p : Places) : Type 0 where
  -- there are 32 places; which are live, and which are spent, by their turns
  pub used : Used turn_of 32 (live_of p.live) (live_of p.spent) ops
  pub wiped : Wiped (live_of p.live) ops
  pub ties : Ties (table (live_of p.live) ops) w
