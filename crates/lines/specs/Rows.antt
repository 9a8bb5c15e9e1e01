-- What a line says: the table of the calls, a row for each name and number of numbers. A new call is a new row. Assumes nothing.
use Rattle.std.specs.Prelude.{ℕ, zero, suc, List, [], ◌∷◌, Bool, cond, ◌&&◌, length, get_or, eqb, ltb, bytes_eq, Option, None, Some}
use Prim.Native.Char.{code}
use Prim.Native.String.{String, [] as ε, ◌∷◌ as ◌▸◌}
use Rattle.model.specs.declared.Call.TheVariants as Call
use Rattle.lines.specs.declared.Line.{Line}
use Rattle.lines.specs.Text.{number, words}

-- the bytes of a text in ASCII
abbrev pub bytes : String → List ℕ
bytes ε = []
bytes (◌▸◌ c s) = code c ∷ bytes s

-- a name, the largest value of each number that follows it, and what the line then means, of its numbers by place
pub record Row : Type 0 where
  pub name : List ℕ
  pub most : List ℕ
  pub means : (ℕ → ℕ) → Line

abbrev row : String → List ℕ → ((ℕ → ℕ) → Line) → Row
row s m f = record { name = bytes s; most = m; means = f }

abbrev none : List ℕ
none = []

abbrev one : List ℕ
one = 4294967295 ∷ []

abbrev two : List ℕ
two = 4294967295 ∷ 4294967295 ∷ []

unfoldable pub table : List Row
table =
    row "make" none (λ n. Line.Make 8)
    ∷ row "make" one (λ n. Line.Make (n 0))
    ∷ row "make-u" none (λ n. Line.MakeU)
    ∷ row "clone-s" one (λ n. Line.Call (Call.CloneS (n 0)))
    ∷ row "clone-r" one (λ n. Line.Call (Call.CloneR (n 0)))
    ∷ row "try-send" two (λ n. Line.Call (Call.TrySend (n 0) (n 1)))
    ∷ row "try-res" one (λ n. Line.Call (Call.TryRes (n 0)))
    ∷ row "reserve" one (λ n. Line.Call (Call.Reserve (n 0)))
    ∷ row "send" two (λ n. Line.Call (Call.Send (n 0) (n 1)))
    ∷ row "recv" one (λ n. Line.Call (Call.Recv (n 0)))
    ∷ row "poll-out" two (λ n. Line.Call (Call.PollOut (n 0) (n 1)))
    ∷ row "cancel-out" one (λ n. Line.Call (Call.CancelOut (n 0)))
    ∷ row "permit-send" two (λ n. Line.Call (Call.PermitSend (n 0) (n 1)))
    ∷ row "permit-drop" one (λ n. Line.Call (Call.PermitDrop (n 0)))
    ∷ row "try-recv" one (λ n. Line.Call (Call.TryRecv (n 0)))
    ∷ row "poll-in" two (λ n. Line.Call (Call.PollIn (n 0) (n 1)))
    ∷ row "cancel-in" one (λ n. Line.Call (Call.CancelIn (n 0)))
    ∷ row "drop-s" one (λ n. Line.Call (Call.DropS (n 0)))
    ∷ row "drop-r" one (λ n. Line.Call (Call.DropR (n 0)))
    ∷ row "status" none (λ n. Line.Call Call.Status)
    ∷ []

-- what stands past the table's end: any line of it is bad
abbrev pub no_row : Row
no_row = record { name = []; most = []; means = λ n. Line.Bad }

abbrev pub row_at : ℕ → Row
row_at k = get_or table k no_row

-- is it this row's line: the name w with n numbers
abbrev pub fits : List ℕ → ℕ → Row → Bool
fits w n r = bytes_eq r.name w && eqb (length r.most) n

-- the place of the first row that fits, or the table's length
unfoldable pub place : List Row → List ℕ → ℕ → ℕ
place [] w n = zero
place (r ∷ rs) w n = cond (fits w n r) zero (suc (place rs w n))

-- what a name with these numbers behind it means
abbrev pub meaning : List ℕ → List ℕ → Line
meaning w ns = (row_at (place table w (length ns))).means (λ i. get_or ns i 0)

-- the numbers that the words say, each within its limit
abbrev pub push : Option ℕ → Option (List ℕ) → Option (List ℕ)
push None ns = None
push (Some v) None = None
push (Some v) (Some vs) = Some (v ∷ vs)

unfoldable pub read : List ℕ → List (List ℕ) → Option (List ℕ)
read [] [] = Some []
read [] (w ∷ ws) = None
read (m ∷ ms) [] = None
read (m ∷ ms) (w ∷ ws) = push (number m w) (read ms ws)

abbrev pub line : Row → Option (List ℕ) → Line
line r None = Line.Bad
line r (Some vs) = r.means (λ i. get_or vs i 0)

unfoldable pub said : List (List ℕ) → Line
said [] = Line.Bad
said (w ∷ ws) = let r = row_at (place table w (length ws)) in line r (read r.most ws)

-- what a line of bytes, its LF taken off, says
unfoldable pub parsed : List ℕ → Line
parsed s = cond (ltb 64 (length s)) Line.Bad (said (words s))
