-- AN ARRAY OF RECORDS WITH ITS TWO WORDS. A record carries its own turn, live or not: how many turns of its place are over. The one word tells
-- which places are live, the other which are used up. Their meaning is the definition's table, in which only a live record shows.
-- One definition for every kind of record. Assumes nothing.
use Rattle.std.specs.Prelude.{Bool, true, false, Option, None, Some, List, [], ◌∷◌, map, ◌≡◌, ℕ, suc, ◌≤◌, leb, ltb, length, get_or, set, if◌then◌else◌}
use Rattle.live.specs.Table.{Within}
use Rattle.model.specs.Table.{Place, vacant, holds, turn, in_place, Table, LAST_TURN, live, size}
use Rattle.live.specs.Bits.{count_live}

-- the places that are used up, once k turns of the place i are over
abbrev pub spent_by : List Bool → ℕ → ℕ → List Bool
spent_by spent i k = if leb k LAST_TURN then spent else set spent i true

module _ {A : Type 0} (turn_of : A → ℕ) where
  -- how many turns of the place i are over (past the end of the array: none)
  abbrev pub turn_at : List A → ℕ → ℕ
  turn_at xs i = get_or (map turn_of xs) i 0

  -- WHAT TIES THE WORDS TO THE TURNS, in a kind of record with this limit
  pub record Used (limit : ℕ) (live spent : List Bool) (xs : List A) : Type 0 where
    pub sized : length xs ≡ limit
    -- no place from the limit on is live or used up
    pub within : Within limit live
    pub bounded : Within limit spent
    -- a place that is used up is not live, and its last turn is over; any other place has a turn left or is in its last
    pub over : (i : ℕ) → get_or spent i false ≡ true → (get_or live i false ≡ false) × (turn_at xs i ≡ suc LAST_TURN)
    pub left : (i : ℕ) → get_or spent i false ≡ false → turn_at xs i ≤ LAST_TURN

-- the two lists side by side, ending with the shorter
module _ {A R : Type 0} (turn_of : A → ℕ) (record_of : A → R) where
  abbrev pub place_at : Bool → A → Place R
  place_at true x = holds (turn_of x) (record_of x)
  place_at false x = vacant (turn_of x)

  unfoldable pub places_of : List Bool → List A → Table R
  places_of [] xs = []
  places_of (b ∷ l) [] = []
  places_of (b ∷ l) (x ∷ xs) = place_at b x ∷ places_of l xs

-- is a record there
abbrev pub is_live : {A : Type 0} → Option A → Bool
is_live None = false
is_live (Some a) = true

-- THE TWO WORDS OF A TABLE'S PLACES, of which there are no more than bits in a word. The one tells of each place whether it holds a record, and as
-- many are set as there are records; the other, whether its last turn is over.
pub record Marks {R : Type 0} (limit : ℕ) (word spent : List Bool) (t : Table R) : Type 0 where
  pub few : limit ≤ 64
  pub sized : size t ≡ limit
  pub each : (i : ℕ) → get_or word i false ≡ is_live (in_place (get_or t i (vacant 0)))
  pub over : (i : ℕ) → get_or spent i false ≡ ltb LAST_TURN (turn (get_or t i (vacant 0)))
  pub count : count_live word ≡ live t
