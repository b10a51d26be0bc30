use Rattle.std.proofs.Common.{◌≡◌, ◌+◌, ◌++◌, map, drop, sum, length}
use Rattle.std.specs.VecDeque.{deque_len}
use Rattle.selection.specs.ChosenView.{chosen_value}
use Rattle.tables.specs.Sdt.{rows_room}
use Rattle.output_tables.specs.Output.{output_row, row_length, sdt_groups, sdt_groups_behind}
use Rattle.output_tables.proofs.output_sdt.group_rows.Given as goal

abbrev pub invariant-loop-service : goal.invariant-loop-service
invariant-loop-service l = record {
  groups : l.groups.items ++ sdt_groups_behind l.group (map output_row (map chosen_value (drop l.service-index l.chosen))) ≡ sdt_groups (map output_row (map chosen_value l.chosen));
  len : deque_len l.groups ≡ length l.groups.items;
  room : l.room + sum (map row_length l.group) ≡ rows_room;
}
