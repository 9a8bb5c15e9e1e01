-- THE MEANING of the tables of handles and of permits: the definition's tables. Assumes nothing.
use Rattle.std.specs.Prelude.{ℕ, Bool, false, Option, None, Some, eqb}
use Rattle.live.specs.Bits.{live_of}
use Rattle.model.specs.Table.{Table, same}
use Rattle.model.specs.Queue.{Mark}
use Rattle.tables.specs.declared.Handles.{Handles}
use Rattle.tables.specs.declared.Permits.{Permits}
use Rattle.tables.specs.Places.{Used, places_of}
use Rattle.tables.specs.Records.{handle_turn, marked, permit_turn, owner_of, Wiped}
pub use Rattle.tables.specs.Places.{is_live}

-- ---- handles
unfoldable pub handles_of : Handles → Table Mark
handles_of h = places_of handle_turn marked (live_of h.places.live) h.table

-- what every table of handles keeps
pub record HandlesSound (h : Handles) : Type 0 where
  pub used : Used handle_turn 16 (live_of h.places.live) (live_of h.places.spent) h.table

pub handles_sound : (h : Handles) → HandlesSound h
handles_sound h = record { used = h.used }

-- ---- permits
unfoldable pub permits_of : Permits → Table ℕ
permits_of p = places_of permit_turn owner_of (live_of p.places.live) p.table

-- what every table of permits keeps
pub record PermitsSound (p : Permits) : Type 0 where
  pub used : Used permit_turn 64 (live_of p.places.live) (live_of p.places.spent) p.table
  pub wiped : Wiped (live_of p.places.live) p.table

pub permits_sound : (p : Permits) → PermitsSound p
permits_sound p = record { used = p.used; wiped = p.wiped }

-- 1 or 0: does a permit belong to the sender s
abbrev pub belongs : ℕ → ℕ → ℕ
belongs s owner = same s owner

-- the same of a place, by whether a permit is there
abbrev pub is_own : ℕ → Option ℕ → Bool
is_own s None = false
is_own s (Some owner) = eqb s owner
