-- A NUMBER put together of its place and its turn. Assumes nothing.
use Rattle.std.specs.Prelude.{ℕ, ⊤, ◌+◌, ◌*◌, ◌<◌, ◌≤◌, Option, None, Some}
use Rattle.model.specs.Table.{LAST_TURN}
use Rattle.tables.specs.declared.Number.{Number}

abbrev pub numbered : Number → ℕ
numbered n = n.place + 64 * n.turn

-- a number that a table with this many places can give, if one is there: its place is one of the table's, and its turn is not past the last
abbrev pub Fits : ℕ → Option Number → Type 0
Fits limit None = ⊤
Fits limit (Some n) = (n.place < limit) × (n.turn ≤ LAST_TURN)
