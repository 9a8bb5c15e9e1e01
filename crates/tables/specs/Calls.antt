-- WHAT THE METHODS OF THE TABLES DO, by the operations of the definition's tables. Assumes nothing.
use Rattle.std.specs.Prelude.{ℕ, ◌≡◌}
use Rattle.std.specs.Prelude.{Option, None, Some}
use Rattle.model.specs.Table.{Table, blank, put, clear, lowest}
use Rattle.tables.specs.declared.Handles.{Handles}
use Rattle.tables.specs.declared.Permits.{Permits}
use Rattle.tables.specs.declared.Opened.{Opened}
use Rattle.tables.specs.Meaning.{handles_of, HandlesSound, permits_of, PermitsSound}

-- a record at the number given, if one was given
abbrev pub put_if : {A : Type 0} → Option ℕ → A → Table A → Table A
put_if None s t = t
put_if (Some n) s t = put t n s

-- ---- handles: fresh, open, close
pub record NoHandles (r : Handles) : Type 0 where
  pub sound : HandlesSound r
  pub handles : handles_of r ≡ blank 16

pub record Clones (h : Handles) (r : Opened Handles) : Type 0 where
  pub sound : HandlesSound r.next
  pub number : r.number ≡ lowest (handles_of h)
  pub handles : handles_of r.next ≡ put_if r.number tt (handles_of h)

pub record Leaves (h : Handles) (n : ℕ) (r : Handles) : Type 0 where
  pub sound : HandlesSound r
  pub handles : handles_of r ≡ clear (handles_of h) n

-- ---- permits: fresh, open, close
pub record NoPermits (r : Permits) : Type 0 where
  pub sound : PermitsSound r
  pub permits : permits_of r ≡ blank 64

pub record Gives (p : Permits) (s : ℕ) (r : Opened Permits) : Type 0 where
  pub sound : PermitsSound r.next
  pub number : r.number ≡ lowest (permits_of p)
  pub permits : permits_of r.next ≡ put_if r.number s (permits_of p)

pub record Drops (p : Permits) (n : ℕ) (r : Permits) : Type 0 where
  pub sound : PermitsSound r
  pub permits : permits_of r ≡ clear (permits_of p) n
