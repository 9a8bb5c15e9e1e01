-- The laws of the list of a word's bits, in which n is live where `get_or l n false ≡ true`. Assumes nothing.
use mathlib.Core.Bool.{Bool, true, false, ◌||◌}
use mathlib.Core.List.{List, [], ◌∷◌}
use mathlib.Core.Path.{◌≡◌, refl, ap, ◌∙◌}
use Prim.Native.Nat.{ℕ, zero, suc, ◌/◌, ◌<◌, ◌≤◌}
use native.Mathlib.Nat.{lt_of_not-le}
use native.Mathlib.Omega.{arith}
use lib.ListN.{length, get_or, set, replicate}
use lib.Seq.{get_or-set_other}
use Rattle.live.specs.declared.Live.{Live}
use Rattle.live.specs.Bits.{bits_of, live_of, none_live, lowest_clear, either, count_live}
use Rattle.live.specs.Table.{Within}

length_bits : (d n : ℕ) → length (bits_of d n) ≡ d
unfolding bits_of
length_bits zero n = refl
length_bits (suc d) n = ap suc (length_bits d (n / 2))

pub length_live : (l : Live) → length (live_of l) ≡ 64
length_live l = length_bits 64 l.0

-- the lowest number that is not live is not live
pub lowest_clear_lem : (l : List Bool) → get_or l (lowest_clear l) false ≡ false
unfolding lowest_clear
lowest_clear_lem [] = refl
lowest_clear_lem (true ∷ l) = lowest_clear_lem l
lowest_clear_lem (false ∷ l) = refl

-- what is live in neither of two lists together is live in neither by itself
pub either_clear : (l m : List Bool) (n : ℕ) → n < length l → n < length m → get_or (either l m) n false ≡ false
    → (get_or l n false ≡ false) × (get_or m n false ≡ false)
unfolding either
either_clear [] m n h k e = absurd (omega arith)
either_clear (b ∷ l) [] n h k e = absurd (omega arith)
either_clear (b ∷ l) (c ∷ m) (suc n) h k e = either_clear l m n (omega arith) (omega arith) e
either_clear (b ∷ l) (c ∷ m) zero h k e = go b c e
  where
    go : (b c : Bool) → (b || c) ≡ false → (b ≡ false) × (c ≡ false)
    go false false e = (refl, refl)
    go false true e = (refl, e)
    go true c e = (e, let z : ◌≡◌ {A = ℕ} 0 1 = cc in absurd (omega arith))

-- ---- no number from the limit on is live
all_clear : (d n : ℕ) → get_or (replicate d false) n false ≡ false
all_clear zero n = refl
all_clear (suc d) zero = refl
all_clear (suc d) (suc n) = all_clear d n

pub within_none : (limit : ℕ) → Within limit none_live
unfolding none_live
within_none limit n h = all_clear 64 n

pub within_with : (limit : ℕ) (l : List Bool) (n : ℕ) → n < limit → Within limit l → Within limit (set l n true)
within_with limit l n h w k g = get_or-set_other l n k true false (λ e. omega arith) ∙ w k g

-- what is not live stays so where another number's record ends
clear_without : (l : List Bool) (n k : ℕ) → get_or l k false ≡ false → get_or (set l n false) k false ≡ false
clear_without [] n k e = refl
clear_without (b ∷ l) zero zero e = refl
clear_without (b ∷ l) zero (suc k) e = e
clear_without (b ∷ l) (suc n) zero e = e
clear_without (b ∷ l) (suc n) (suc k) e = clear_without l n k e

pub within_without : (limit : ℕ) (l : List Bool) (n : ℕ) → Within limit l → Within limit (set l n false)
within_without limit l n w k g = clear_without l n k (w k g)

-- one number less, in the list without its head
pub within_tail : (limit : ℕ) (b : Bool) (l : List Bool) → Within (suc limit) (b ∷ l) → Within limit l
within_tail limit b l w n h = w (suc n) (omega arith)

-- a live number is below the limit
pub live_below : (limit : ℕ) (l : List Bool) (n : ℕ) → Within limit l → get_or l n false ≡ true → n < limit
live_below limit l n w e = lt_of_not-le (λ h. let z : ◌≡◌ {A = ℕ} 0 1 = cc (w n h) in omega arith)

-- no more than the limit are live
pub count_within : (limit : ℕ) (l : List Bool) → Within limit l → count_live l ≤ limit
unfolding count_live
count_within limit [] w = omega arith
count_within zero (true ∷ l) w = let e = w 0 (omega arith) in let z : ◌≡◌ {A = ℕ} 0 1 = cc in absurd (omega arith)
count_within zero (false ∷ l) w = count_within zero l (λ n h. w (suc n) (omega arith))
count_within (suc limit) (true ∷ l) w = let h = count_within limit l (within_tail limit true l w) in omega arith
count_within (suc limit) (false ∷ l) w = let h = count_within limit l (within_tail limit false l w) in omega arith
