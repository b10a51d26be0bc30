use Rattle.std.proofs.Common.{◌≡◌, ◌+◌, ◌*◌, length, map, ap, arith}
use Rattle.std.proofs.lemmas.List.{length-map}
use Rattle.tables.specs.Nit.{nit_section_length_of}
use Rattle.selection.specs.ChosenView.{chosen_value}
use Rattle.output_tables.specs.Output.{output_nit}
use Rattle.output_tables.proofs.RoomLaws.{nit_length}
use Rattle.plan_causes.proofs.table_causes.nit_section_length.Goals as goal

pub returns : goal.returns
returns c =
    let chosen = c.args.chosen.now in
    let all = nit_length c.args.request.now (map chosen_value chosen) in
    let count = length-map chosen chosen_value in
    let name = ap length c.network_name.ensures.value in
    let others = ap length c.transport_descriptors.ensures.value in
    let same : 19 + (2 + length c.network_name.result.now) + (2 + 3 * length chosen) + length c.transport_descriptors.result.now ≡ nit_section_length_of (output_nit c.args.request.now (map chosen_value chosen)) = omega arith in
    same
