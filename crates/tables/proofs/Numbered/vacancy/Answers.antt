-- `tables::Numbered::vacancy` meets its contract, of any kind.
-- Assumes nothing.
use Rattle.tables.proofs.Vacancy.{none_vacant, vacancy_given, vacancy_left}
use borrow.Author.Rules.{rules}
use Rattle.tables.proofs.Numbered.vacancy.Goals as goal

pub returns-then-place-LIMIT-clause-lowest : goal.returns-then-place-LIMIT-clause-lowest
returns-then-place-LIMIT-clause-lowest g c = search (rules, vacancy_given)

pub returns-then-place-LIMIT-clause-fits : goal.returns-then-place-LIMIT-clause-fits
returns-then-place-LIMIT-clause-fits g c = search (rules, vacancy_left)

pub returns-clause-lowest : goal.returns-clause-lowest
returns-clause-lowest g c = search (rules, none_vacant)
