use Rattle.std.proofs.Common.{◌≡◌, ◌+◌, take, map, length}
use Rattle.std.specs.List.{sum}
use Rattle.tables.specs.declared.pmt_row.PmtRow.{PmtRow}
use Rattle.output_tables.proofs.too_large.pmt_room.Given as goal

abbrev pub invariant-loop-row : goal.invariant-loop-row
invariant-loop-row l = record {
  rows : l.rows ≡ l.pmt.rows;
  room : l.room + (13 + length l.pmt.program_info + sum (map (λ (r : PmtRow). 5 + length r.descriptors) (take l.row-index l.pmt.rows))) ≡ 1021;
}
