use Rattle.std.proofs.Common.{◌≡◌, ◌+◌, ◌*◌, ◌≤◌, map, drop}
use Rattle.selection.specs.ChosenView.{chosen_value}
use Rattle.tables.specs.Sdt.{rows_room}
use Rattle.output_tables.specs.Output.{output_row}
use Rattle.output_tables.proofs.SdtCountLaws.{count_behind}
use Rattle.output_tables.proofs.counts.sdt_count.Given as goal

abbrev pub invariant-loop-service : goal.invariant-loop-service
invariant-loop-service l = record {
  counted : l.packets + count_behind l.used (map output_row (map chosen_value (drop l.service-index l.chosen))) ≡ count_behind 0 (map output_row (map chosen_value l.chosen));
  used : l.used ≤ rows_room;
  few : l.packets ≤ 6 * l.service-index;
}
