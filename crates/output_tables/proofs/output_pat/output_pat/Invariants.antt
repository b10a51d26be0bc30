use Rattle.std.proofs.Common.{◌≡◌, ◌+◌, ◌∷◌, map, take, length, vec_len, vec_capacity}
use Rattle.selection.specs.ChosenView.{chosen_value}
use Rattle.output_tables.specs.Output.{pat_row_of_service}
use Rattle.output_tables.proofs.output_pat.output_pat.Given as goal

abbrev pub invariant-loop-service : goal.invariant-loop-service
invariant-loop-service l = record {
  rows : l.rows.items ≡ record { program_number = 0; pid = 0x0010 } ∷ map pat_row_of_service (map chosen_value (take l.service-index l.chosen));
  len : vec_len l.rows ≡ 1 + l.service-index;
  room : vec_capacity l.rows ≡ 1 + length l.chosen;
}
