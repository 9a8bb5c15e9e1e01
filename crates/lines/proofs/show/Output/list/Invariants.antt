-- `list` meets its contract. The loop's invariant: behind the first number stand those before the index, a comma before each. Assumes nothing.
use Prim.Native.Nat.{◌≤◌, ◌+◌, ◌*◌}
use Rattle.lines.specs.Shown.{Adds}
use Rattle.lines.proofs.Showing.{behind}
use Rattle.lines.proofs.show.Output.list.Given as goal

abbrev pub invariant-loop-other : goal.invariant-loop-other
invariant-loop-other l = record {
  adds : Adds l.initial.self l.self (behind l.other-index l.others);
  room : l.self.end ≤ l.initial.self.end + 21 * l.other-index;
}
