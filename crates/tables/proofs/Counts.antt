-- A count by a loop over the places of a table: what is passed sums to the total, and in the end all is passed. One law for every kind of
-- record. Assumes nothing.
use Prim.Native.Nat.{ℕ, suc, ◌+◌, ◌<◌, ◌≤◌}
use mathlib.Core.Path.{◌≡◌, refl, sym, ap, ap₂, ◌∙◌}
use mathlib.Core.List.{[], ◌∷◌, ◌++◌}
use native.Mathlib.Numerals.{add-one}
use native.Mathlib.Omega.{arith}
use mathlib.Core.Bool.{Bool, true}
use borrow.Author.Tests.{leb-true}
use lib.Dec.{leb}
use Rattle.std.proofs.lemmas.List.Sums.{sum_by-cons}
use Rattle.std.specs.List.{count_by, range_with_len}
use Rattle.std.specs.Prelude.{cond}
use native.Mathlib.Nat.{add-zero}
use lib.ListN.{length, get_or, take, length-take}
use lib.Seq.{take_all, take-suc}
use mir.Val.{Fits}
use mir.Syntax.{w32}
use Rattle.model.specs.Table.{Place, vacant, holds, in_place, Table, of, sum}
use Rattle.model.proofs.TableLaws.{sum_le_size}

module _ {A : Type 0} (f : A → ℕ) where
  sum_append : (t u : Table A) → sum f (t ++ u) ≡ sum f t + sum f u
  sum_append [] u = omega arith
  sum_append (x ∷ t) u = let h = sum_append t u in omega arith

  -- total is the sum over the first n places of a table with this many
  pub record Counting (t : Table A) (size n total : ℕ) : Type 0 where
    pub wide : length t ≡ size
    pub most : n ≤ size
    pub is : total ≡ sum f (take n t)

  pub counting_none : (t : Table A) (size : ℕ) → length t ≡ size → Counting t size 0 0
  counting_none t size w = record { wide = w; most = omega arith; is = refl }

  module _ (t : Table A) (size n total : ℕ) (c : Counting t size n total) where
    pub counting_more : (x : ℕ) → n < size → x ≡ of f (in_place (get_or t n (vacant 0))) → Counting t size (n + 1) (total + x)
    counting_more x small here =
        record {
          wide = c.wide;
          most = omega arith;
          is =
              let step : sum f (take (suc n) t) ≡ sum f (take n t) + sum f (get_or t n (vacant 0) ∷ []) =
              ap (sum f) (take-suc t n (vacant 0) (omega (arith, c.wide))) ∙ sum_append (take n t) (get_or t n (vacant 0) ∷ []) in
              let q : total + x ≡ sum f (take (suc n) t) = omega (arith, c.is) in
              q ∙ ap (λ (k : ℕ). sum f (take k t)) (sym (add-one n));
        }

    pub counting_done : size ≤ n → total ≡ sum f t
    counting_done h = c.is ∙ ap (sum f) (take_all n t (omega (arith, c.wide)))

    -- every record counts at most once, and a table has at most 64, so the sum fits
    pub counting_fits : ((a : A) → f a ≤ 1) → leb size 64 ≡ true → (x : ℕ) → x ≡ of f (in_place (get_or t n (vacant 0))) → Fits w32 (total + x)
    counting_fits one small x g =
        record {
          fits =
              let a = sum_le_size f one (take n t) in
              let b : of f (in_place (get_or t n (vacant 0))) ≤ 1 = by (get_or t n (vacant 0)) in
              omega (arith, c.is, length-take n t, c.wide, leb-true size 64 small);
        }
      where
        by : (p : Place A) → of f (in_place p) ≤ 1
        by (vacant k) = omega arith
        by (holds k a) = one a

-- a count by a chain: as many places pass the test as the sum of f over the table, in which a record counts as one or not at all
pub counted_by : {A : Type 0} (f : A → ℕ) (t : Table A) (start : ℕ) (p : ℕ → Bool)
    → ((i : ℕ) → cond (p (start + i)) 1 0 ≡ of f (in_place (get_or t i (vacant 0)))) → count_by p (range_with_len start (length t)) ≡ sum f t
counted_by f [] start p e = refl
counted_by f (x ∷ t) start p e =
    let first : cond (p start) 1 0 ≡ of f (in_place x) = ap (λ (i : ℕ). cond (p i) 1 0) (sym (add-zero start)) ∙ e 0 in
    let rest = counted_by f t (start + 1) p (λ i. let same : start + 1 + i ≡ start + suc i = omega arith in ap (λ (k : ℕ). cond (p k) 1 0) same ∙ e (suc i)) in
    sum_by-cons (λ (i : ℕ). cond (p i) 1 0) start (range_with_len (start + 1) (length t)) ∙ ap₂ (λ (n m : ℕ). n + m) first rest
