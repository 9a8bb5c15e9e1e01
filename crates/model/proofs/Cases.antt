-- A RESULT BY CASES, for any statement P of it: the record is live, or its number was closed, or never given; a number is left or not.
-- Assumes nothing.
use Rattle.std.specs.Prelude.{if◌then◌else◌}
use mathlib.Core.Path.{◌≡◌, refl}
use mathlib.Core.Bool.{Bool, true, false}
use Rattle.std.specs.Prelude.{Option, None, Some}
use Prim.Native.Nat.{ℕ}
use Rattle.model.specs.Table.{Table, lookup, was_closed, lowest}
use Rattle.model.specs.Queue.{Queue, Result, refuse, dead, need, need_of, give, give_of, NO_HANDLE, CLOSED, NO_ROOM}

module _ {A : Type 0} (P : Result → Type 0) (t : Table A) where
  pub need_cases : (n : ℕ) (q : Queue) (go : A → Result) → (lookup t n ≡ None → P (refuse CLOSED q)) → (lookup t n ≡ None → P (refuse NO_HANDLE q))
      → ((a : A) → lookup t n ≡ Some a → P (go a)) → P (need t n q go)
  need_cases n q go closed never h = by (lookup t n) refl
    where
      by : (o : Option A) → lookup t n ≡ o → P (need_of o (dead t n) q go)
      by None e = either (was_closed t n)
        where
          either : (b : Bool) → P (refuse (if b then CLOSED else NO_HANDLE) q)
          either true = closed e
          either false = never e
      by (Some a) e = h a e

  pub give_cases : (q : Queue) (go : ℕ → Result) → P (refuse NO_ROOM q) → ((n : ℕ) → lowest t ≡ Some n → P (go n)) → P (give t q go)
  give_cases q go short h = by (lowest t) refl
    where
      by : (o : Option ℕ) → lowest t ≡ o → P (give_of o q go)
      by None e = short
      by (Some n) e = h n e
