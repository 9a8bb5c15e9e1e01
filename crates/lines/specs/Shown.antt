-- The text of an output line: the definition's answer, in decimal. Assumes nothing.
use Rattle.std.specs.Prelude.{ℕ, ◌+◌, ◌≡◌, List, [], ◌∷◌, ◌++◌, map, Bool, cond, ◌&&◌, length, take, drop, eqb, option_to_list}
use Rattle.std.specs.Fmt.{decimal}
-- what `decimal` computes by, for those who unfold a text
unfoldable pub use Rattle.std.specs.Fmt.{digits}
use Rattle.model.specs.Queue.{Ans, STATUS}
use Rattle.lines.specs.Text.{space, comma, dash, LF}
use Rattle.lines.specs.declared.Answer.{Answer}
use Rattle.lines.specs.declared.show.Output.{Output}

-- texts joined by commas, `-` for none
abbrev pub after : List (List ℕ) → List ℕ
after [] = []
after (t ∷ ts) = comma ∷ (t ++ after ts)

abbrev pub joined : List (List ℕ) → List ℕ
joined [] = dash ∷ []
joined (t ∷ ts) = t ++ after ts

abbrev pub decs : List ℕ → List ℕ
decs ns = joined (map decimal ns)

-- is it the status of an unbounded queue: five counts, where a bounded one's has the free room besides, in the second place
abbrev pub roomless : ℕ → List ℕ → Bool
roomless code field = eqb code STATUS && eqb (length field) 5

-- texts with a `-` in the second place
abbrev pub dashed : List (List ℕ) → List (List ℕ)
dashed ts = take 1 ts ++ ((dash ∷ []) ∷ drop 1 ts)

-- an answer's field: its numbers, and for the free room that an unbounded queue does not count, `-`
abbrev pub field_text : ℕ → List ℕ → List ℕ
field_text code field = joined (cond (roomless code field) (dashed (map decimal field)) (map decimal field))

-- an answer of these parts
abbrev pub answered : ℕ → List ℕ → List ℕ → List ℕ → Ans
answered code field wakes retired = record { code = code; field = field; wakes = wakes; retired = retired }

-- line number, code, field, wakes and retired, parted by spaces, and LF
unfoldable pub shown : ℕ → Ans → List ℕ
shown n a =
    decimal n ++ (space ∷ (decimal a.code ++ (space ∷ (field_text a.code a.field ++ (space ∷ (decs a.wakes ++ (space ∷ (decs a.retired ++ (LF ∷ [])))))))))

-- what the code's answer says
abbrev pub told : Answer → Ans
told a = answered a.code a.field.now a.wakes.now (option_to_list a.retired)

-- a buffer that held `old` up to `at` now holds it with the text behind it, up to r, and what stands beyond is as it was
pub record Put (old new : List ℕ) (at r : ℕ) (text : List ℕ) : Type 0 where
  pub holds : take r new ≡ take at old ++ text
  pub ends : r ≡ at + length text
  pub beyond : drop r new ≡ drop r old

-- the text was put behind what the output held, into the same buffer
pub record Adds (old new : Output) (text : List ℕ) : Type 0 where
  pub put : Put old.buffer.now new.buffer.now old.end new.end text
  pub len : length new.buffer.now ≡ length old.buffer.now
  pub same_buffer : new.buffer.ghost_name ≡ old.buffer.ghost_name
