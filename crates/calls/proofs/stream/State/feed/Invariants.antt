-- The loop of `feed`: what is put, and what the rest of the chunk will put, is what the chunk puts. Assumes nothing.
use Prim.Native.Nat.{ℕ, ◌≤◌, ◌+◌}
use mathlib.Core.Path.{◌≡◌}
use mathlib.Core.List.{List, ◌++◌}
use lib.ListN.{length, take}
use Rattle.calls.specs.Stream.{St, fed, text}
use Rattle.calls.proofs.stream.State.feed.Given as goal

-- `rest` is still to be read, and `put` bytes are put
pub record Inv (chunk : List ℕ) (s₀ : St) (out : List ℕ) (s : St) (rest : List ℕ) (put : ℕ) : Type 0 where
  pub within : length rest ≤ length chunk
  pub fresh : length chunk ≤ length rest → put ≡ 0
  pub room : put ≤ length out
  pub lines : s.count + length rest ≤ s₀.count + length chunk
  pub state : fed s₀ chunk ≡ fed s rest
  pub wrote : text s₀ chunk ≡ take put out ++ text s rest

abbrev pub invariant-loop-rest : goal.invariant-loop-rest
invariant-loop-rest l = Inv l.chunk l.fn.self l.out l.self l.rest l.put

abbrev pub decreases-loop-rest : goal.decreases-loop-rest
decreases-loop-rest l = length l.rest
