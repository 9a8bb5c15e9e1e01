-- A number that is shown is read back: `number` of `decimal n` is n, for every n that a u64 holds, and far beyond. Assumes nothing.
use Prim.Native.Nat.{ℕ, zero, suc, ◌+◌, ◌/◌, ◌%◌, ◌^◌, ◌<◌, ◌≤◌}
use mathlib.Core.Path.{◌≡◌, refl, ◌∙◌}
use mathlib.Core.List.{List, [], ◌∷◌, ◌++◌}
use native.Mathlib.Omega.{arith}
use lib.ListN.{length, get_or}
use borrow.Author.Tests.{le-leb}
use Rattle.std.specs.Prelude.{Some}
use Rattle.std.specs.Fmt.{decimal}
use Rattle.std.proofs.lemmas.Fmt.{decimal_is_IsNumeral_wide, decimal_by_steps_wide, decimal_digit}
use Rattle.lines.specs.Text.{number}
use Rattle.lines.proofs.Laws.{value, own, number_is, number_zero}

-- the first digit of a number above 0 is none
abbrev Leads : ℕ → List ℕ → Type 0
Leads n ds = (0 < length ds) × (0 < n → 48 < get_or ds 0 0)

leads : (n : ℕ) → n < 10 ^ 64 → Leads n (decimal n)
leads = decimal_by_steps_wide Leads one more
  where
    one : (n : ℕ) → n < 10 → Leads n ((48 + n) ∷ [])
    one n h = (omega arith, λ z. omega arith)

    more : (n : ℕ) (ds : List ℕ) → 10 ≤ n → Leads (n / 10) ds → Leads n (ds ++ ((48 + n % 10) ∷ []))
    more n [] h l = absurd (omega arith)
    more n (d ∷ ds) h l = (omega arith, λ z. l.1 (omega arith))

pub round : (m n : ℕ) → n ≤ m → n < 10 ^ 64 → number m (decimal n) ≡ Some n
round m zero l h = rw (decimal_digit 0 (omega arith)) (number_zero m (48 ∷ []) refl refl)
round m (suc n) l h =
    let first = leads (suc n) h in
    let is = decimal_is_IsNumeral_wide (suc n) h in
    let ds = decimal (suc n) in
    let says : value 0 ds ≡ suc n = own.same ds is.0.1 ∙ is.1 in
    let low : 48 < get_or ds 0 0 = first.1 (omega arith) in
    number_is m ds is.0.0 (λ e. omega arith) ∙ rw (own.from ds is.0.1, says, le-leb (suc n) m l)
