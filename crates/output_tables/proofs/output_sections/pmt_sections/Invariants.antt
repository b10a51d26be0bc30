use Rattle.std.proofs.Common.{◌≡◌, map, take, length, vec_len, vec_capacity}
use Rattle.std.specs.List.{AllZip}
use Rattle.selection.specs.ChosenView.{chosen_value}
use Rattle.output_tables.specs.TableSet.{IsPmtFor}
use Rattle.output_tables.proofs.output_sections.pmt_sections.Given as goal

abbrev pub invariant-loop-service : goal.invariant-loop-service
invariant-loop-service l = record {
  sections : AllZip (IsPmtFor l.request) l.sections.items (map chosen_value (take l.service-index l.chosen));
  len : vec_len l.sections ≡ l.service-index;
  room : vec_capacity l.sections ≡ length l.chosen;
}
