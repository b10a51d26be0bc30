use Rattle.std.proofs.Common.{◌≡◌, take, length, vec_len, vec_capacity}
use Rattle.output_tables.proofs.table_set.copied_sections.Given as goal

abbrev pub invariant-loop-section : goal.invariant-loop-section
invariant-loop-section l = record {
  sections : l.copies.items ≡ take l.section-index l.sections;
  len : vec_len l.copies ≡ l.section-index;
  room : vec_capacity l.copies ≡ length l.sections;
}
