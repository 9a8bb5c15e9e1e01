-- Promises determine: any two answers that a promise allows give the same number and tables of one meaning. (The other
-- functions answer by an equation.) Assumes nothing.
use Prim.Native.Nat.{ℕ, ◌+◌, ◌*◌, ◌≤◌}
use mathlib.Core.Path.{◌≡◌, refl, sym, ap, ap₂, ◌∙◌}
use native.Mathlib.Omega.{arith}
use Rattle.std.proofs.lemmas.Option.{same_Some, none-some}
use Rattle.std.specs.Prelude.{Option, None, Some, option_map}
use Rattle.model.specs.Table.{Table, lowest}
use Rattle.tables.specs.declared.Number.{Number}
use Rattle.tables.specs.Numbers.{numbered, Fits}
use Rattle.tables.specs.declared.Handles.{Handles}
use Rattle.tables.specs.declared.Permits.{Permits}
use Rattle.tables.specs.declared.Opened.{Opened}
use Rattle.tables.specs.Meaning.{handles_of, permits_of}
use Rattle.tables.specs.Calls.{put_if, NoHandles, Clones, Leaves, NoPermits, Gives, Drops}

-- a number and a table by it, given twice
both : {A : Type 0} {n m l : Option ℕ} {t u : Table A} (before : Table A) (x : A)
    → n ≡ l → m ≡ l → t ≡ put_if n x before → u ≡ put_if m x before → (n ≡ m) × (t ≡ u)
both {A} {n} {m} {l} {t} {u} before x p q a b =
    let e : n ≡ m = p ∙ sym q in
    (e, a ∙ (ap (λ (o : Option ℕ). put_if o x before) e ∙ sym b))

-- the place of the next record, and its turn
pub vacancy_one : {A : Type 0} (limit : ℕ) (t : Table A) (a b : Option Number) → limit ≤ 64 → option_map numbered a ≡ lowest t → Fits limit a
    → option_map numbered b ≡ lowest t → Fits limit b → a ≡ b
vacancy_one limit t None None few p f q g = refl
vacancy_one limit t None (Some b) few p f q g = absurd (none-some _ (p ∙ sym q))
vacancy_one limit t (Some a) None few p f q g = absurd (none-some _ (q ∙ sym p))
vacancy_one limit t (Some a) (Some b) few p f q g =
    let e : a.place + 64 * a.turn ≡ b.place + 64 * b.turn = same_Some _ _ (p ∙ sym q) in
    let place : a.place ≡ b.place = omega (arith, f.0, g.0) in
    let turn : a.turn ≡ b.turn = omega arith in
    ap₂ (λ (i k : ℕ). Some (record { place = i; turn = k })) place turn

-- handles
pub fresh_one : (r t : Handles) → NoHandles r → NoHandles t → handles_of r ≡ handles_of t
fresh_one r t p q = p.handles ∙ sym q.handles

pub open_one : (h : Handles) (r t : Opened Handles) → Clones h r → Clones h t
    → (r.number ≡ t.number) × (handles_of r.next ≡ handles_of t.next)
open_one h r t p q = both (handles_of h) tt p.number q.number p.handles q.handles

pub close_one : (h : Handles) (n : ℕ) (r t : Handles) → Leaves h n r → Leaves h n t → handles_of r ≡ handles_of t
close_one h n r t p q = p.handles ∙ sym q.handles

-- permits
pub permits_fresh_one : (r t : Permits) → NoPermits r → NoPermits t → permits_of r ≡ permits_of t
permits_fresh_one r t p q = p.permits ∙ sym q.permits

pub permits_open_one : (h : Permits) (s : ℕ) (r t : Opened Permits) → Gives h s r → Gives h s t
    → (r.number ≡ t.number) × (permits_of r.next ≡ permits_of t.next)
permits_open_one h s r t p q = both (permits_of h) s p.number q.number p.permits q.permits

pub permits_close_one : (h : Permits) (n : ℕ) (r t : Permits) → Drops h n r → Drops h n t → permits_of r ≡ permits_of t
permits_close_one h n r t p q = p.permits ∙ sym q.permits
