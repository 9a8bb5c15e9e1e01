-- THE TEXT OF AN UNBOUNDED QUEUE: what begins one, and what its status shows, beside that of a bounded one. Assumes nothing.
use Rattle.std.specs.Prelude.{ℕ, ◌≡◌, refl, List, [], ◌∷◌, ◌++◌, map, length}
use Rattle.model.specs.Table.{live}
use Rattle.model.specs.Side.{called_count, polled_count}
use Rattle.model.specs.Queue.{Queue, slots, unbounded}
use Rattle.model.specs.Calls.{status}
use Rattle.lines.specs.declared.Line.TheVariants as Line
use Rattle.lines.specs.Text.{dash, LF}
use Rattle.lines.specs.Rows.{bytes, table, place, read, said, parsed}
use Rattle.std.specs.Fmt.{decimal}
use Rattle.lines.specs.Shown.{digits, decs, joined, field_text, answered, shown}

-- make-u stands alone: with a number or a space behind it, or as the beginning of a longer name, it cannot be read; and make is not make-u
pub makes : map (λ l. parsed (bytes l)) ("make-u" ∷ "make-u 3" ∷ "make-u " ∷ "make-u8" ∷ "make" ∷ []) ≡ Line.MakeU ∷ Line.Bad ∷ Line.Bad ∷ Line.Bad ∷ Line.Make 8 ∷ []
unfolding table place read said parsed
makes = refl

-- the counts of any queue's status that stand behind its free room
abbrev behind : Queue → List ℕ
behind q = live q.permits ∷ called_count q.outs ∷ length q.outs.line ∷ polled_count q.ins ∷ []

abbrev status_text : Queue → List ℕ
status_text q = field_text (status q).ans.code (status q).ans.field

-- a bounded queue's shows six numbers, and an unbounded one's `-` for the second
pub status_bounded : (q : Queue) (f : ℕ) → q.free ≡ slots f → status_text q ≡ decs (length q.values ∷ f ∷ behind q)
unfolding status
status_bounded q f e = rw e

pub status_unbounded : (q : Queue) → q.free ≡ unbounded → status_text q ≡ joined (decimal (length q.values) ∷ (dash ∷ []) ∷ map decimal (behind q))
unfolding status
status_unbounded q e = rw e

-- as a line
pub status_line : shown 6 (answered 4 (3 ∷ 0 ∷ 0 ∷ 0 ∷ 1 ∷ []) [] []) ≡ bytes "6 4 3,-,0,0,0,1 - -" ++ (LF ∷ [])
unfolding digits shown
status_line = refl
