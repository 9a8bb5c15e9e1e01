-- The places of a ring: where its values stand, and what stands elsewhere. Assumes nothing.
use Rattle.std.specs.Prelude.{◌≡◌, List, ℕ, ◌+◌, ◌%◌, ◌<◌, get_or}

-- the k-th value stands k places after the start
abbrev pub place : ℕ → ℕ → ℕ
place start k = (start + k) % 64

-- no value stands at the place i
abbrev pub Free : ℕ → ℕ → ℕ → Type 0
Free start len i = (k : ℕ) → k < len → i ≡ place start k → ⊥

-- a place where no value stands holds zero
abbrev pub Zeroed : ℕ → ℕ → List ℕ → Type 0
Zeroed start len slots = (i : ℕ) → Free start len i → get_or slots i 0 ≡ 0
