use Rattle.std.proofs.Common.{◌++◌, List, ℕ, ap, ◌∙◌}
use Rattle.tables.specs.Descriptors.{are_whole}
use Rattle.output_tables.proofs.DescriptorsLaws.{whole_append}
use Rattle.output_tables.proofs.output_nit.transport_descriptors.Goals as goal

pub unwrap-requires : goal.unwrap-requires
unwrap-requires c =
    let list = c.in_ok-bytes.ensures.items ∙ c.bytes.ensures.value in
    let all = c.in_ok-extend_from_slice.ensures.items ∙ ap (λ (l : List ℕ). l ++ c.args.others.now) list in
    c.from_bytes.ensures.whole.1 (ap (are_whole 0) all ∙ whole_append 0 _ c.args.others.now c.bytes.ensures.whole c.requires.whole)
