-- `side::Side::close_line` meets its contract.
-- Assumes nothing.
use Rattle.std.proofs.Common.{◌≡◌, map, rules, of_calls}
use Rattle.side.specs.Meaning.{voided}
use Rattle.side.proofs.Kept.{sound_of}
use Rattle.side.proofs.Calling.{all_voided, close_kept, close_done}
use Rattle.side.proofs.Side.close_line.Goals as goal

pub invariant_of-self : goal.invariant_of-self
invariant_of-self c =
    let h = c.map-self.ensures.items in
    let e : c.map-self.result ≡ map voided c.args.self.ops = all_voided c.args.self.ops c.map-self.result (sound_of c.args.self).used.sized h.long (λ i x y b. let q = (h.at i x y b).2 in search (rules, of_calls)) in
    search close_kept

pub returns : goal.returns
returns c =
    let h = c.map-self.ensures.items in
    let e : c.map-self.result ≡ map voided c.args.self.ops = all_voided c.args.self.ops c.map-self.result (sound_of c.args.self).used.sized h.long (λ i x y b. let q = (h.at i x y b).2 in search (rules, of_calls)) in
    search close_done
