-- THE RECORDS of handles and of permits, one by one. Assumes nothing.
use Rattle.std.specs.Prelude.{ℕ, Bool, false, List, ◌≡◌, get_or}
use Rattle.model.specs.Queue.{Mark}
use Rattle.tables.specs.declared.Handle.{Handle}
use Rattle.tables.specs.declared.Permit.{Permit}

-- what stands at a place that was never used (and what a read past the end of a table stands for)
abbrev pub no_handle : Handle
no_handle = record { turn = 0 }

abbrev pub no_permit : Permit
no_permit = record { owner = 0; turn = 0 }

-- a handle shows nothing but that it is there
abbrev pub handle_turn : Handle → ℕ
handle_turn h = h.turn

abbrev pub marked : Handle → Mark
marked h = tt

-- a permit shows its sender's number
abbrev pub permit_turn : Permit → ℕ
permit_turn p = p.turn

abbrev pub owner_of : Permit → ℕ
owner_of p = p.owner

-- a place that is not live holds its turn and nothing else: no owner of a permit that is gone
abbrev pub Wiped : List Bool → List Permit → Type 0
Wiped live table = (i : ℕ) → get_or live i false ≡ false → (get_or table i no_permit).owner ≡ 0
