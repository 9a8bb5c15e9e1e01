-- WHAT `Wakes` MEANS: the tokens that are woken, in order. Assumes nothing.
use Rattle.std.specs.Prelude.{ℕ, List, take}
use Rattle.wakes.specs.declared.tokens.Wakes.{Wakes}

unfoldable pub tokens_of : Wakes → List ℕ
tokens_of w = take w.count w.tokens
