use Rattle.std.proofs.Common.{◌≡◌, ◌++◌, take, map}
use Rattle.std.specs.Prelude.{All}
use Rattle.request.specs.Parts.{service_parts_value}
use Rattle.request.specs.Request.{row_of}
use Rattle.request_causes.specs.Causes.{IsRowOf, stream_row}
use Rattle.request_causes.proofs.rows.add_rows.Given as goal

abbrev pub invariant-loop-number : goal.invariant-loop-number
invariant-loop-number l = record {
  places : All (IsRowOf (map service_parts_value l.services)) l.fn.rows.items → All (IsRowOf (map service_parts_value l.services)) l.rows.items;
  all : map stream_row l.rows.items ≡ map stream_row l.fn.rows.items ++ map (row_of l.service.input) (take l.number l.service.streams.items);
}
