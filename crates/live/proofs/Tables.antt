-- The laws of a table beside a word: what `held` shows after each change of the two. One law for every kind of record. Assumes nothing.
use mathlib.Core.Bool.{Bool, true, false}
use mathlib.Core.List.{List, [], ◌∷◌}
use Rattle.std.specs.Prelude.{Option, None, Some}
use mathlib.Core.Path.{◌≡◌, refl, ap}
use Prim.Native.Nat.{ℕ, zero, suc, ◌<◌, ◌≤◌}
use native.Mathlib.Omega.{arith}
use lib.ListN.{length, get_or, set, replicate}
use Rattle.live.specs.Bits.{none_live}
use Rattle.live.specs.Table.{shown, held}

module _ {A : Type 0} where
  pub length_held : (l : List Bool) (xs : List A) → length xs ≤ length l → length (held l xs) ≡ length xs
  unfolding held
  length_held [] [] h = refl
  length_held [] (x ∷ xs) h = absurd (omega arith)
  length_held (b ∷ l) [] h = refl
  length_held (b ∷ l) (x ∷ xs) h = ap suc (length_held l xs (omega arith))

  -- a record is read: what is live is there, and nothing else
  pub held_live : (l : List Bool) (xs : List A) (n : ℕ) (d : A) → n < length xs → get_or l n false ≡ true → get_or (held l xs) n None ≡ Some (get_or xs n d)
  unfolding held
  held_live l [] n d h e = absurd (omega arith)
  held_live [] (x ∷ xs) n d h e = let z : ◌≡◌ {A = ℕ} 0 1 = cc in absurd (omega arith)
  held_live (b ∷ l) (x ∷ xs) zero d h e = ap (λ (c : Bool). shown c x) e
  held_live (b ∷ l) (x ∷ xs) (suc n) d h e = held_live l xs n d (omega arith) e

  pub held_free : (l : List Bool) (xs : List A) (n : ℕ) → get_or l n false ≡ false → get_or (held l xs) n None ≡ None
  unfolding held
  held_free [] xs n e = refl
  held_free (b ∷ l) [] n e = refl
  held_free (b ∷ l) (x ∷ xs) zero e = ap (λ (c : Bool). shown c x) e
  held_free (b ∷ l) (x ∷ xs) (suc n) e = held_free l xs n e

  -- a record opens
  pub held_open : (l : List Bool) (xs : List A) (n : ℕ) (x : A) → held (set l n true) (set xs n x) ≡ set (held l xs) n (Some x)
  unfolding held
  held_open [] xs n x = refl
  held_open (b ∷ l) [] zero x = refl
  held_open (b ∷ l) [] (suc n) x = refl
  held_open (b ∷ l) (y ∷ xs) zero x = refl
  held_open (b ∷ l) (y ∷ xs) (suc n) x = ap (λ (m : List (Option A)). shown b y ∷ m) (held_open l xs n x)

  -- a record ends
  pub held_close : (l : List Bool) (xs : List A) (n : ℕ) → held (set l n false) xs ≡ set (held l xs) n None
  unfolding held
  held_close [] xs n = refl
  held_close (b ∷ l) [] zero = refl
  held_close (b ∷ l) [] (suc n) = refl
  held_close (b ∷ l) (y ∷ xs) zero = refl
  held_close (b ∷ l) (y ∷ xs) (suc n) = ap (λ (m : List (Option A)). shown b y ∷ m) (held_close l xs n)

  -- a live record is written
  pub held_write : (l : List Bool) (xs : List A) (n : ℕ) (x : A) → get_or l n false ≡ true → held l (set xs n x) ≡ set (held l xs) n (Some x)
  unfolding held
  held_write [] xs n x e = refl
  held_write (b ∷ l) [] n x e = refl
  held_write (b ∷ l) (y ∷ xs) zero x e = ap (λ (c : Bool). shown c x ∷ held l xs) e
  held_write (b ∷ l) (y ∷ xs) (suc n) x e = ap (λ (m : List (Option A)). shown b y ∷ m) (held_write l xs n x e)

  -- no record is live
  held_clear : (d : ℕ) (xs : List A) → length xs ≤ d → held (replicate d false) xs ≡ replicate (length xs) None
  unfolding held
  held_clear zero [] h = refl
  held_clear zero (x ∷ xs) h = absurd (omega arith)
  held_clear (suc d) [] h = refl
  held_clear (suc d) (x ∷ xs) h = ap (λ (m : List (Option A)). None ∷ m) (held_clear d xs (omega arith))

  pub held_none : (xs : List A) → length xs ≤ 64 → held none_live xs ≡ replicate (length xs) None
  unfolding none_live
  held_none xs h = held_clear 64 xs h
