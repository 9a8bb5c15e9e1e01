-- `said` meets its contract, path by path: the words of the line, and the numbers among them. Assumes nothing.
use mathlib.Core.Path.{sym, ◌∙◌}
use Rattle.lines.proofs.Reading.{split_words, alone_said, one_read, one_bad, two_read, first_bad, second_bad}
use Rattle.lines.proofs.names.said.Goals as goal

pub returns-in_default : goal.returns-in_default
returns-in_default c =
    let s = c.args.text.now in
    c.alone.ensures ∙ sym (alone_said s (rw c.in_default.is at (split_words s c.split_once.result c.split_once.ensures.cases)))

pub returns-in_err-number : goal.returns-in_err-number
returns-in_err-number c =
    let s = c.args.text.now in
    let t = c.in-Some.numbers.now in
    let split = rw c.in-Some.is at (split_words s c.split_once.result c.split_once.ensures.cases) in
    let last = rw c.in_default-split_once.is at (split_words t c.split_once-2.result c.split_once-2.ensures.cases) in
    rw c.from_residual.ensures (sym (one_bad s c.in-Some.name.now t split last (sym c.number.ensures ∙ c.in_err-number.was)))

pub returns-in_default-split_once : goal.returns-in_default-split_once
returns-in_default-split_once c =
    let s = c.args.text.now in
    let t = c.in-Some.numbers.now in
    let split = rw c.in-Some.is at (split_words s c.split_once.result c.split_once.ensures.cases) in
    let last = rw c.in_default-split_once.is at (split_words t c.split_once-2.result c.split_once-2.ensures.cases) in
    c.with_one.ensures ∙ sym (one_read s c.in-Some.name.now t split last c.in_ok-number.field-0 (sym c.number.ensures ∙ c.in_ok-number.was))

pub returns-in_err-number-2 : goal.returns-in_err-number-2
returns-in_err-number-2 c =
    let s = c.args.text.now in
    let t = c.in-Some.numbers.now in
    let split = rw c.in-Some.is at (split_words s c.split_once.result c.split_once.ensures.cases) in
    let more = rw c.in-Some-split_once.is at (split_words t c.split_once-2.result c.split_once-2.ensures.cases) in
    let two = c.in-Some-split_once in
    rw c.from_residual-in_err-number-2.ensures
    (sym (first_bad s c.in-Some.name.now t split two.first.now two.second.now more (sym c.number-2.ensures ∙ c.in_err-number-2.was)))

pub returns-in_err-number-3 : goal.returns-in_err-number-3
returns-in_err-number-3 c =
    let s = c.args.text.now in
    let t = c.in-Some.numbers.now in
    let split = rw c.in-Some.is at (split_words s c.split_once.result c.split_once.ensures.cases) in
    let more = rw c.in-Some-split_once.is at (split_words t c.split_once-2.result c.split_once-2.ensures.cases) in
    let two = c.in-Some-split_once in
    rw c.from_residual-in_err-number-3.ensures
    (sym (second_bad s c.in-Some.name.now t split two.first.now two.second.now more (sym c.number-3.ensures ∙ c.in_err-number-3.was)))

pub returns : goal.returns
returns c =
    let s = c.args.text.now in
    let t = c.in-Some.numbers.now in
    let split = rw c.in-Some.is at (split_words s c.split_once.result c.split_once.ensures.cases) in
    let more = rw c.in-Some-split_once.is at (split_words t c.split_once-2.result c.split_once-2.ensures.cases) in
    let two = c.in-Some-split_once in
    c.with_two.ensures
    ∙ sym (two_read s c.in-Some.name.now t split two.first.now two.second.now more c.in_ok-number-2.field-0 c.in_ok-number-3.field-0 (sym c.number-2.ensures ∙ c.in_ok-number-2.was) (sym c.number-3.ensures ∙ c.in_ok-number-3.was))
