-- MEMORY DUMPS: what the memory of a queue's ring shows, after any calls (proofs/Dumps.antt). Assumes nothing.
use Rattle.std.specs.Prelude.{ℕ, ◌<◌, ◌≡◌, List, length, get_or}
use Rattle.ring.specs.declared.Ring.{Ring}
use Rattle.ring.specs.Values.{place, Vacant}

-- the ring shows the values l and nothing else:
--   counted  its length is how many they are
--   queued   the k-th of them stands k places after its start, where place 0 comes after place 63
--   others   every other place holds zero: no value that was taken or discarded is left
pub record Shows (l : List ℕ) (r : Ring) : Type 0 where
  pub counted : r.len ≡ length l
  pub queued : (k : ℕ) → k < length l → get_or r.slots (place r.start k) 0 ≡ get_or l k 0
  pub others : (i : ℕ) → Vacant r i → get_or r.slots i 0 ≡ 0
