use Rattle.std.proofs.Common.{◌≡◌, ◌∷◌, List, map, take, ap, ◌∙◌, arith}
use Rattle.std.proofs.lemmas.List.{take_all}
use Rattle.std.proofs.lemmas.List.Elements.{All-same}
use Rattle.tables.specs.Pat.{IsPatRow}
use Rattle.tables.specs.declared.pat_row.PatRow.{PatRow}
use Rattle.selection.specs.declared.chosen_service.ChosenService.{ChosenService}
use Rattle.selection.specs.ChosenView.{chosen_value}
use Rattle.output_tables.specs.Output.{pat_row_of_service}
use Rattle.output_tables.proofs.OutputLaws.{pat_rows_fit}
use Rattle.output_tables.proofs.output_pat.output_pat.Goals as goal

pub new-requires-clause-rows : goal.new-requires-clause-rows
new-requires-clause-rows c =
    let chosen = c.args.chosen.now in
    let all : take c.loop-service.service-index chosen ≡ chosen = take_all c.loop-service.service-index chosen (omega arith) in
    let network : PatRow = record { program_number = 0; pid = 0x0010 } in
    let rows : c.loop-service.rows.items ≡ network ∷ map pat_row_of_service (map chosen_value chosen) =
    c.loop-service.invariant.rows ∙ ap (λ (l : List ChosenService). network ∷ map pat_row_of_service (map chosen_value l)) all in
    All-same IsPatRow c.loop-service.rows.items (network ∷ map pat_row_of_service (map chosen_value chosen)) rows (pat_rows_fit c.args.request.now (map chosen_value chosen) c.requires.request c.requires.services)
