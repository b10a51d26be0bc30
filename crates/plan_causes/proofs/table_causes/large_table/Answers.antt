use Rattle.std.proofs.Common.{rules, ◌≡◌, ◌<◌, nat_lt, Bool, false, true, map}
use Rattle.std.proofs.lemmas.Bool.{ltb-true}
use Rattle.tables.specs.Nit.{nit_section_length_of}
use Rattle.tables.specs.Sdt.{rows_room}
use Rattle.selection.specs.Chosen.{ChosenValue}
use Rattle.selection.specs.ChosenView.{chosen_value}
use Rattle.selection.specs.declared.chosen_service.ChosenService.{ChosenService}
use Rattle.output_tables.specs.Output.{output_nit, output_row, row_length, is_too_large}
use Rattle.plan_causes.proofs.FindLaws.{found_passes, none_passes}
use Rattle.plan_causes.proofs.PeriodLaws.{not_below}
use Rattle.plan_causes.proofs.ServiceLaws.{chosen_is}
use Rattle.plan_causes.proofs.SizeLaws.{pmt_is_large}
use Rattle.plan_causes.proofs.table_causes.large_table.Goals as goal

pub returns-in-Some-clause-table : goal.returns-in-Some-clause-table
returns-in-Some-clause-table c =
    let p : ChosenValue → Bool = λ x. nat_lt rows_room (row_length (output_row x)) in
    let s : ChosenService = c.in-Some.service.now in
    let passes : p (chosen_value s) ≡ true = found_passes (λ (x : ChosenService). p (chosen_value x)) c.args.chosen.now s (search rules) in
    chosen_is p (λ x. rows_room < row_length (output_row x)) c.args.chosen.now s c.of.result (search rules) (search rules)
    (ltb-true rows_room (row_length (output_row (chosen_value s))) passes)

pub returns-in-None-clause-table : goal.returns-in-None-clause-table
returns-in-None-clause-table c =
    let r = c.args.request.now in
    let chosen = map chosen_value c.args.chosen.now in
    let large : is_too_large r chosen ≡ true = search rules in
    let nit : nat_lt 1021 (nit_section_length_of (output_nit r chosen)) ≡ false = not_below 1021 (nit_section_length_of (output_nit r chosen)) (search rules) in
    pmt_is_large r chosen large nit
    (none_passes (λ (x : ChosenValue). nat_lt rows_room (row_length (output_row x))) chosen_value c.args.chosen.now (search rules))
