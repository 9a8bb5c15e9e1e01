-- Promises determine. Each promise of this crate is an equation `f r ≡ want`, in which f is the identity (has, lowest_beside, count) or the meaning
-- `live_of` (fresh, with, without): any two answers that it allows have the same f. Assumes nothing.
use mathlib.Core.Path.{◌≡◌, sym, ◌∙◌}

pub one : {A B : Type 0} (f : A → B) (want : B) (r t : A) → f r ≡ want → f t ≡ want → f r ≡ f t
one f want r t p q = p ∙ sym q
