use Rattle.std.proofs.Common.{arith, ◌<◌, ◌≤◌, length}
use Rattle.tables.specs.Pmt.{pmt_section_length_of}
use Rattle.selection.specs.Chosen.{ChosenValue}
use Rattle.selection.specs.ChosenView.{chosen_value}
use Rattle.output_tables.specs.Output.{output_pmt}
use Rattle.output_tables.proofs.ListLaws.{item_has}
use Rattle.output_tables.proofs.RoomLaws.{pmt_length}
use Rattle.output_tables.proofs.counts.fast_count.Goals as goal

pub pmt_count-packets-requires : goal.pmt_count-packets-requires
pmt_count-packets-requires c =
    let r = c.args.request.now in
    let x = c.service-item.result in
    let within : c.loop-service.service-index < length c.args.chosen.now = omega arith in
    let fits : pmt_section_length_of (output_pmt r (chosen_value x)) ≤ 1021 =
    item_has chosen_value (λ (v : ChosenValue). pmt_section_length_of (output_pmt r v) ≤ 1021) c.args.chosen.now c.loop-service.service-index x within c.service-item.is c.requires.room.pmts in
    omega (arith, pmt_length r (chosen_value x))
