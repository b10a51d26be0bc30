use Rattle.std.proofs.Common.{◌≡◌, take, length, vec_len, vec_capacity}
use Rattle.std.specs.List.{AllZip}
use Rattle.output_tables.specs.TableSet.{IsSdtFor}
use Rattle.output_tables.proofs.output_sections.sdt_sections.Given as goal

abbrev pub invariant-loop-table : goal.invariant-loop-table
invariant-loop-table l = record {
  sections : AllZip IsSdtFor l.sections.items (take l.table-index l.table-items);
  len : vec_len l.sections ≡ l.table-index;
  room : vec_capacity l.sections ≡ length l.table-items;
}
