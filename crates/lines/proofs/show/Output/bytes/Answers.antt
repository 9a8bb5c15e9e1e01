-- `bytes` meets its contract: a copy into the part behind the text. Assumes nothing.
use mathlib.Core.Path.{refl}
use Rattle.std.proofs.Common.{rules}
use Rattle.std.proofs.lemmas.Slice.{overwrites}
use Rattle.lines.proofs.show.Output.bytes.Goals as goal

pub returns : goal.returns
returns c =
    record {
      put =
          record {
            holds = search (rules, overwrites);
            ends = refl;
            beyond = search (rules, overwrites);
          };
      len = search rules;
      same_buffer = refl;
    }
