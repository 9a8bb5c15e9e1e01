-- Each read has answered no more lines than it had bytes. Assumes nothing.
use Prim.Native.Nat.{◌≤◌, ◌*◌}
use Rattle.calls.proofs.pump.Given as goal

abbrev pub invariant-loop-read : goal.invariant-loop-read
invariant-loop-read l = l.state.count ≤ l._read * 65536
