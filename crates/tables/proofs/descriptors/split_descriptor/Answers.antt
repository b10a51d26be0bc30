use Rattle.std.proofs.Common.{rules, ◌+◌, ap, ◌∙◌}
use Rattle.std.proofs.lemmas.List.{take_rest}
use Rattle.tables.specs.Descriptors.{are_whole}
use Rattle.tables.proofs.DescriptorLaws.{descriptors_split, whole_behind}
use Rattle.tables.proofs.descriptors.split_descriptor.Goals as goal

pub returns-clause-descriptors : goal.returns-clause-descriptors
returns-clause-descriptors c = descriptors_split c.args.bytes.now c.from-count.result (search rules) c.requires.some c.requires.whole

pub returns-clause-whole : goal.returns-clause-whole
returns-clause-whole c = ap (are_whole 0) (take_rest c.args.bytes.now (2 + c.from-count.result)) ∙ whole_behind c.args.bytes.now c.from-count.result (search rules) c.requires.some c.requires.whole
