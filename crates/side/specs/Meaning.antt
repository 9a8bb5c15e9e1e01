-- THE MEANING OF A SIDE: the model's side, whose job is what an operation carries. Assumes nothing.
use Rattle.std.specs.Prelude.{ℕ, List, get_or}
use Rattle.std.specs.Prelude.{Option}
use Rattle.waitlist.specs.View.{along}
use Rattle.live.specs.Bits.{live_of}
use Rattle.live.specs.Table.{held as table}
use Rattle.model.specs.Table.{Place, vacant}
use Rattle.model.specs.Side as model
use Rattle.model.specs.Queue.{Job}
use Rattle.tables.specs.Places.{places_of}
use Rattle.side.specs.declared.Op.{Op}
use Rattle.side.specs.declared.Side.{Side}
use Rattle.side.specs.Operations.{Deed, turn_of, number_in, deed_by}
pub use Rattle.side.specs.Operations.{Deed, carried, cargo_of, idle_op, blank_op, fresh_op, turn_of, number_at, number_in, told_by, stage_in, stage_by, deed_by, stage_of, deed_of, void_mark, voided, Tests}

-- the live operations, each at its place
abbrev pub table_of : Side → List (Option Op)
table_of s = table (live_of s.places.live) s.ops

unfoldable pub side_of : Side → model.Side Job
side_of s =
    record {
      ops = places_of turn_of (deed_by s.waiters) (live_of s.places.live) s.ops;
      line = along (number_in s.ops) s.waiters;
    }

-- a place of the model's table (past the end: one never used)
abbrev pub place_in : Side → ℕ → Place Deed
place_in s place = get_or (side_of s).ops place (vacant 0)
