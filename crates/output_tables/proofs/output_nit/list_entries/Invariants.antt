use Rattle.std.proofs.Common.{◌≡◌, map, take, length, vec_len, vec_capacity}
use Rattle.selection.specs.ChosenView.{chosen_value}
use Rattle.output_tables.specs.Output.{list_entry}
use Rattle.output_tables.proofs.output_nit.list_entries.Given as goal

abbrev pub invariant-loop-service : goal.invariant-loop-service
invariant-loop-service l = record {
  entries : l.entries.items ≡ map list_entry (map chosen_value (take l.service-index l.chosen));
  len : vec_len l.entries ≡ l.service-index;
  room : vec_capacity l.entries ≡ length l.chosen;
}
