-- `wakes::wake_all` meets its contract. The invariant: the tokens taken and those of the line that is left are those of the whole line.
-- Assumes nothing.
use Rattle.wakes.specs.Tokens.{tokens_of}
use Rattle.wakes.proofs.Steps.{Waking}
use Rattle.wakes.proofs.wake_all.Given as goal

abbrev pub invariant-loop : goal.invariant-loop
invariant-loop l = Waking l.initial.left l.left (tokens_of l.wakes) l.counter
