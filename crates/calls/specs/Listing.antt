-- THE SPECIFICATION'S LISTING, as text: the definition's output for its fifteen lines is the specification's. And its rules on make, on make-u, on lines
-- that cannot be read, on a last line without LF and on empty input, each by an example. Assumes nothing.
use Rattle.std.specs.Prelude.{ℕ, ◌≡◌, refl, List, [], ◌∷◌, ◌++◌}
use Prim.Native.String.{String}
use Rattle.lines.specs.Text.{LF, number, rest}
use Rattle.lines.specs.Rows.{bytes, table, place, read, said, parsed}
use Rattle.std.specs.Fmt.{digits}
use Rattle.lines.specs.Shown.{shown}
use Rattle.model.specs.Calls.{make, make_u, step, try_send, try_res, open_out, open_in, poll_out, permit_send, try_recv, poll_in, drop_s, drop_r, status}
use Rattle.calls.specs.Whole.{lines_of, answers, output}

-- lines with their LFs
abbrev pub text : List String → List ℕ
text [] = []
text (l ∷ ls) = bytes l ++ (LF ∷ text ls)

pub listing :
    output
    (text
    ("make 1"
    ∷ "try-send 0 7"
    ∷ "reserve 0"
    ∷ "poll-out 0 90"
    ∷ "try-recv 0"
    ∷ "status"
    ∷ "try-send 0 8"
    ∷ "poll-out 0 91"
    ∷ "recv 0"
    ∷ "poll-in 0 50"
    ∷ "permit-send 0 8"
    ∷ "poll-in 0 51"
    ∷ "drop-s 0"
    ∷ "try-recv 0"
    ∷ "drop-r 0"
    ∷ []))
    ≡ text
    ("1 0 - - -"
    ∷ "2 0 - - -"
    ∷ "3 2 0 - -"
    ∷ "4 3 - - -"
    ∷ "5 1 7 90 -"
    ∷ "6 4 0,0,0,1,0,0 - -"
    ∷ "7 10 8 - -"
    ∷ "8 2 0 - -"
    ∷ "9 2 0 - -"
    ∷ "10 3 - - -"
    ∷ "11 0 - 50 -"
    ∷ "12 1 8 - -"
    ∷ "13 0 - - -"
    ∷ "14 12 - - -"
    ∷ "15 0 0 - -"
    ∷ [])
unfolding lines_of answers number rest table place read said parsed digits shown make step try_send open_out open_in poll_out permit_send try_recv poll_in drop_s drop_r status
listing = refl

-- before the first good make a call answers 21; a refused make keeps the queue before it; a good one begins a new queue
pub makes :
    output (text ("status" ∷ "make 0" ∷ "status" ∷ "make 2" ∷ "try-send 0 7" ∷ "make 65" ∷ "status" ∷ "make" ∷ "status" ∷ []))
    ≡ text
    ("1 21 - - -"
    ∷ "2 20 - - -"
    ∷ "3 21 - - -"
    ∷ "4 0 - - -"
    ∷ "5 0 - - -"
    ∷ "6 20 - - -"
    ∷ "7 4 1,1,0,0,0,0 - -"
    ∷ "8 0 - - -"
    ∷ "9 4 0,8,0,0,0,0 - -"
    ∷ [])
unfolding lines_of answers number rest table place read said parsed digits shown make step try_send status
makes = refl

-- make-u begins an unbounded queue: its free room is shown as `-`, and nothing is reserved there
pub unbounded :
    output (text ("make-u" ∷ "try-send 0 7" ∷ "status" ∷ "try-res 0" ∷ "reserve 0" ∷ "send 0 8" ∷ "try-res 1" ∷ "make 0" ∷ "try-recv 0" ∷ "make-u 3" ∷ "try-send 0 9" ∷ "make-u" ∷ "status" ∷ []))
    ≡ text
    ("1 0 - - -"
    ∷ "2 0 - - -"
    ∷ "3 4 1,-,0,0,0,0 - -"
    ∷ "4 28 - - -"
    ∷ "5 28 - - -"
    ∷ "6 28 - - -"
    ∷ "7 21 - - -"
    ∷ "8 20 - - -"
    ∷ "9 1 7 - -"
    ∷ "10 24 - - -"
    ∷ "11 0 - - -"
    ∷ "12 0 - - -"
    ∷ "13 4 0,-,0,0,0,0 - -"
    ∷ [])
unfolding lines_of answers number rest table place read said parsed digits shown make make_u step try_send try_res open_out try_recv status
unbounded = refl

-- 24, and reading goes on
pub bad_lines :
    output (text ("" ∷ "make 01" ∷ "make  1" ∷ "make 1 " ∷ "make 1 1" ∷ "push 0 1" ∷ "try-recv" ∷ "try-recv 4294967296" ∷ []) ++ bytes "try-recv 0")
    ≡ text
    ("1 24 - - -"
    ∷ "2 24 - - -"
    ∷ "3 24 - - -"
    ∷ "4 24 - - -"
    ∷ "5 24 - - -"
    ∷ "6 24 - - -"
    ∷ "7 24 - - -"
    ∷ "8 24 - - -"
    ∷ "9 21 - - -"
    ∷ [])
unfolding lines_of answers number rest table place read said parsed digits shown
bad_lines = refl

-- empty input prints nothing
pub empty : output [] ≡ []
unfolding lines_of answers
empty = refl
