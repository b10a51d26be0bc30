use Rattle.std.proofs.Common.{◌≡◌, map, take, length, vec_len, vec_capacity}
use Rattle.request.specs.Request.{service_value}
use Rattle.selection.specs.Chosen.{streams_of}
use Rattle.output_tables.specs.Output.{mapped_row}
use Rattle.output_tables.proofs.output_pmt.mapped_rows.Given as goal

abbrev pub invariant-loop-row : goal.invariant-loop-row
invariant-loop-row l = record {
  rows : l.mapped.items ≡ map (mapped_row (streams_of l.request (service_value l.service))) (take l.row-index l.rows);
  len : vec_len l.mapped ≡ l.row-index;
  room : vec_capacity l.mapped ≡ length l.rows;
}
