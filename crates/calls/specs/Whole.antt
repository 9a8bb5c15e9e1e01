-- What the call program writes, as a function of what it reads. Assumes nothing.
use Rattle.std.specs.Prelude.{ℕ, ◌+◌, List, [], ◌∷◌, ◌++◌, cond, eqb}
use Rattle.std.specs.Prelude.{None}
use Rattle.lines.specs.Text.{LF}
use Rattle.lines.specs.Rows.{parsed}
use Rattle.lines.specs.Shown.{shown}
use Rattle.calls.specs.Model.{Held, next_of, reply_of}

abbrev pub grow : ℕ → List (List ℕ) → List (List ℕ)
grow b [] = (b ∷ []) ∷ []
grow b (l ∷ ls) = (b ∷ l) ∷ ls

-- the lines of an input: each goes up to its LF, and what stands behind the last LF, if anything, is a line too
unfoldable pub lines_of : List ℕ → List (List ℕ)
lines_of [] = []
lines_of (b ∷ s) = cond (eqb b LF) ([] ∷ lines_of s) (grow b (lines_of s))

-- the answer to line n
abbrev pub answer : Held → ℕ → List ℕ → List ℕ
answer h n l = shown n (reply_of h (parsed l))

-- the answers to lines, n lines being answered already
unfoldable pub answers : Held → ℕ → List (List ℕ) → List ℕ
answers h n [] = []
answers h n (l ∷ ls) = answer h (n + 1) l ++ answers (next_of h (parsed l)) (n + 1) ls

-- THE WHOLE OUTPUT: at first there is no queue
abbrev pub output : List ℕ → List ℕ
output s = answers None 0 (lines_of s)
