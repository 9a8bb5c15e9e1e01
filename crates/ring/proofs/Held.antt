-- What each move on the fields of a ring leaves, whoever makes it. Assumes nothing.
use Rattle.std.specs.Prelude.{◌≡◌, [], ◌∷◌, ◌++◌, ℕ, ◌+◌, ◌-◌, ◌<◌, length, get_or, set, replicate, Some}
use Rattle.ring.specs.declared.Ring.{Ring}
use Rattle.ring.specs.Values.{place, values, sound_of, first, rest, Holds, Pops}
use Rattle.ring.proofs.Laws.{none_values, push_values, pop_values}

-- no values, and zero in all places
pub none_held : (p : Ring) → p.slots ≡ replicate 64 0 → p.start ≡ 0 → p.len ≡ 0 → Holds [] p
none_held p s e n = (sound_of p, none_values p n)

-- a value is stored after the last
pub push_holds : (r : Ring) (v : ℕ) (p : Ring) → length (values r) < 64
    → p.slots ≡ set r.slots (place r.start r.len) v → p.start ≡ r.start → p.len ≡ r.len + 1
    → Holds (values r ++ (v ∷ [])) p
unfolding values
push_holds r v p room s e n = (sound_of p, rw (s, e, n) (push_values r v room))

-- the first value is taken
pub pop_pops : (r p : Ring) → (r.len ≡ 0 → ⊥)
    → p.slots ≡ set r.slots r.start 0 → p.start ≡ place r.start 1 → p.len ≡ r.len - 1
    → Pops (values r) (record { front = Some (get_or r.slots r.start 0); next = p })
unfolding values first rest
pop_pops r p some s e n = let law = pop_values r some in (rw law, sound_of p, rw (law, s, e, n))
