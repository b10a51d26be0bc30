use Rattle.std.proofs.Common.{rules, ◌≡◌, ◌==◌, length, ap, ◌∙◌, sym, find}
use Rattle.std.proofs.lemmas.List.{nil_from_length}
use Rattle.tables.specs.Descriptors.{descriptors_of}
use Rattle.tables.proofs.DescriptorLaws.{descriptors_none}
use Rattle.tables.proofs.descriptor_loop.DescriptorLoop.first.Goals as goal

pub returns : goal.returns
returns c =
    let none : length c.loop-rest.rest.now ≡ 0 = search rules in
    sym (ap (find (λ d. d.tag == c.args.tag)) (ap (descriptors_of 0) (nil_from_length c.loop-rest.rest.now none) ∙ descriptors_none)) ∙ c.loop-rest.invariant.found
