-- `tables::Permits::owned_by` meets its contract.
-- Assumes nothing.
use Prim.Native.Nat.{ℕ}
use mathlib.Core.Bool.{Bool}
use mathlib.Core.Path.{refl, ◌∙◌}
use Rattle.std.specs.List.{range_with_len}
use Rattle.std.specs.Prelude.{get_or}
use Rattle.std.proofs.Common.{rules, tests}
use Rattle.std.proofs.lemmas.Iterator.{YieldsList-from_range}
use Rattle.std.proofs.lemmas.Iterator.Consumers.{YieldsList-from_filter, count_from_yields_List}
use Rattle.std.proofs.lemmas.List.Sums.{length-filter}
use Rattle.model.specs.Table.{vacant, in_place}
use Rattle.tables.specs.Meaning.{permits_of, is_own}
use Rattle.tables.proofs.Laws.{own_counted}
use Rattle.tables.proofs.Permits.owned_by.Goals as goal

-- the chain counts the places of the sender's own permits
pub returns : goal.returns
returns c =
    let x = c.args in
    let own : ℕ → Bool = λ i. is_own x.owner (in_place (get_or (permits_of x.self) i (vacant 0))) in
    count_from_yields_List _ _ c.count.ensures.ran
    (YieldsList-from_filter _ own (YieldsList-from_range 0 64 64 c.filter.ensures.source refl) c.filter.ensures.closure (λ x r q k. search (rules, tests)))
    ∙ (length-filter own (range_with_len 0 64) ∙ own_counted x.self x.owner)
