use Rattle.std.proofs.Common.{arith, rules, ◌≡◌, ◌+◌, ◌-◌, ℕ, length, take, sym, ap, ◌∙◌, []}
use Rattle.tspkt.specs.Framed.{FramerState, still_to_tell}
use Rattle.tspkt.specs.Stepping.{told_at_end}
use Rattle.tspkt.proofs.FramingLaws.{ends}
use Rattle.tspkt.proofs.ItemListLaws.{told_same, refused_same}
use Rattle.tspkt.proofs.framer.Framer.end.Goals as goal

pub returns-in-Ok-clause-tells : goal.returns-in-Ok-clause-tells
returns-in-Ok-clause-tells g c =
    let f = c.self.inside in
    let whole : length (take f.count f.kept) ≡ f.count = search rules in
    let left : f.position + f.count - f.position ≡ length (take f.count f.kept) = omega arith in
    told_same _ _ _ _
    (ap (λ (n : ℕ). told_at_end f.mode f.position n) left
    ∙ sym (ends f.stride f.mode f.position (take f.count f.kept) c.self.invariant.1.waits)
    ∙ ap (λ (v : FramerState). still_to_tell v []) c.self.view_is)
    c.in-Ok.ensures

pub returns-in-Err-clause-tells : goal.returns-in-Err-clause-tells
returns-in-Err-clause-tells g c =
    let f = c.self.inside in
    let whole : length (take f.count f.kept) ≡ f.count = search rules in
    let left : f.position + f.count - f.position ≡ length (take f.count f.kept) = omega arith in
    refused_same _ _ _ _ _ _
    (ap (λ (n : ℕ). told_at_end f.mode f.position n) left
    ∙ sym (ends f.stride f.mode f.position (take f.count f.kept) c.self.invariant.1.waits)
    ∙ ap (λ (v : FramerState). still_to_tell v []) c.self.view_is)
    c.in-Err.ensures
