-- The same, byte by byte, with what is kept between two bytes. Assumes nothing.
use Rattle.std.specs.Prelude.{ℕ, zero, ◌+◌, ◌≤◌, ◌<◌, ◌≡◌, List, [], ◌∷◌, ◌++◌, cond, length, take, eqb, ltb, None}
use Rattle.lines.specs.Text.{LF}
use Rattle.lines.specs.Rows.{parsed}
use Rattle.calls.specs.Model.{Held, next_of}
use Rattle.calls.specs.Whole.{answer}

-- the lines answered, the first 65 bytes of the line that is being read, and the queue, if there is one
pub record St : Type 0 where
  pub count : ℕ
  pub part : List ℕ
  pub queue : Held

abbrev pub start : St
start = record { count = zero; part = []; queue = None }

-- a line of 65 bytes is bad already, whatever follows: the rest is not kept
abbrev pub keep : List ℕ → ℕ → List ℕ
keep u b = cond (ltb (length u) 65) (u ++ b ∷ []) u

abbrev pub next : St → ℕ → St
next s b =
    cond (eqb b LF)
    (record { count = s.count + 1; part = []; queue = next_of s.queue (parsed s.part) })
    (record { count = s.count; part = keep s.part b; queue = s.queue })

abbrev pub emit : St → ℕ → List ℕ
emit s b = cond (eqb b LF) (answer s.queue (s.count + 1) s.part) []

-- the state after some bytes, and the text written on the way
unfoldable pub fed : St → List ℕ → St
fed s [] = s
fed s (b ∷ bs) = fed (next s b) bs

unfoldable pub text : St → List ℕ → List ℕ
text s [] = []
text s (b ∷ bs) = emit s b ++ text (next s b) bs

-- the text at the input's end: the answer to a last line without LF
unfoldable pub finish : St → List ℕ
finish s = ended s.part
  where
    ended : List ℕ → List ℕ
    ended [] = []
    ended (b ∷ u) = answer s.queue (s.count + 1) (b ∷ u)

-- the text of an input that comes in chunks: each chunk goes on from the state that the one before it left
unfoldable pub streamed : St → List (List ℕ) → List ℕ
streamed s [] = finish s
streamed s (c ∷ cs) = text s c ++ streamed (fed s c) cs

-- a chunk was read up to its `rest`, and the first `put` bytes of out are what that wrote: with what the rest of the chunk writes it is what
-- the chunk writes, and the rest leads to the same state
pub record Step (chunk out : List ℕ) (old new : St) (rest : List ℕ) (put : ℕ) : Type 0 where
  pub within : length rest ≤ length chunk
  pub onward : 0 < length chunk → length rest < length chunk
  pub room : put ≤ length out
  pub lines : new.count + length rest ≤ old.count + length chunk
  pub state : fed old chunk ≡ fed new rest
  pub wrote : text old chunk ≡ take put out ++ text new rest
