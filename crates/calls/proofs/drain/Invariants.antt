-- The loop of `drain` goes on with what `feed` left of the chunk. Assumes nothing.
use Prim.Native.Nat.{ℕ, ◌≤◌, ◌+◌}
use mathlib.Core.Path.{◌≡◌}
use mathlib.Core.List.{List}
use lib.ListN.{length}
use Rattle.calls.specs.Stream.{St, fed}
use Rattle.calls.proofs.drain.Given as goal

pub record Inv (chunk : List ℕ) (s₀ s : St) (rest : List ℕ) : Type 0 where
  pub within : length rest ≤ length chunk
  pub lines : s.count + length rest ≤ s₀.count + length chunk
  pub state : fed s₀ chunk ≡ fed s rest

abbrev pub invariant-loop-rest : goal.invariant-loop-rest
invariant-loop-rest l = Inv l.chunk l.fn.state l.state l.rest

abbrev pub decreases-loop-rest : goal.decreases-loop-rest
decreases-loop-rest l = length l.rest
