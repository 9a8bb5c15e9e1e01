-- WHAT TIES A SIDE'S OPERATIONS TO THE NODES OF ITS WAIT LIST: what every side keeps. Its ghost field says so, and the lemma `sound_of`
-- (proofs/Kept.antt) reads it. Assumes nothing.
use Rattle.side.specs.declared.Side.{Side}
use Rattle.side.specs.Operations.{SoundBy}
pub use Rattle.side.specs.Operations.{node_of, node_in, node_at, Ties, Wiped, SoundBy}

abbrev pub Sound : Side → Type 0
Sound s = SoundBy s.waiters s.ops s.places
