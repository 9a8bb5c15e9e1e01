-- The text of a line: words parted by single spaces, and numbers in decimal. Bytes are numbers. Assumes nothing.
use Rattle.std.specs.Prelude.{ℕ, ◌+◌, ◌-◌, ◌*◌, List, [], ◌∷◌, Bool, true, false, cond, not, eqb, leb, Option, None, Some}
use Rattle.std.specs.Char.{is_ascii_digit}
use Rattle.std.specs.List.{slice_split}

-- the bytes that part words, items and lines, and the one for no item
abbrev pub space : ℕ
space = 32

abbrev pub comma : ℕ
comma = 44

abbrev pub dash : ℕ
dash = 45

abbrev pub LF : ℕ
LF = 10

-- the rest of a number, `a` being what its first digits say: it has digits only, and the whole is at most `most`
unfoldable pub rest : ℕ → ℕ → List ℕ → Option ℕ
rest most a [] = cond (leb a most) (Some a) None
rest most a (c ∷ s) = cond (is_ascii_digit c) (rest most (a * 10 + (c - 48)) s) None

-- not empty, and no `0` before another byte
abbrev pub leads : List ℕ → Bool
leads [] = false
leads (c ∷ []) = true
leads (c ∷ d ∷ s) = not (eqb c 48)

-- a number in decimal without leading zeros, from 0 to `most`
unfoldable pub number : ℕ → List ℕ → Option ℕ
number most w = cond (leads w) (rest most 0 w) None

-- the words of a line: what stands between its spaces. A line of n spaces has n + 1 words, of which some may be empty
abbrev pub words : List ℕ → List (List ℕ)
words s = slice_split (λ c. eqb c space) s
