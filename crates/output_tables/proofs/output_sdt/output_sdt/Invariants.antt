use Rattle.std.proofs.Common.{◌≡◌, ◌+◌, ◌++◌, map, length, vec_len, vec_capacity}
use Rattle.selection.specs.ChosenView.{chosen_value}
use Rattle.output_tables.specs.Output.{output_sdt, numbered_sections}
use Rattle.output_tables.proofs.output_sdt.output_sdt.Given as goal

abbrev pub invariant-loop-group : goal.invariant-loop-group
invariant-loop-group l = record {
  sections : l.sections.items ++ numbered_sections l.request l.last (length l.sections.items) l.groups.items ≡ output_sdt l.request (map chosen_value l.chosen);
  total : length l.sections.items + length l.groups.items ≡ l.last + 1;
  len : vec_len l.sections ≡ length l.sections.items;
  room : vec_capacity l.sections ≡ l.last + 1;
}

abbrev pub decreases-loop-group : goal.decreases-loop-group
decreases-loop-group l = length l.groups.items
