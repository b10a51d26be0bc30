use Rattle.std.proofs.Common.{◌≡◌, take, map}
use Rattle.std.specs.Prelude.{All}
use Rattle.request.specs.Parts.{service_parts_value}
use Rattle.request.specs.Request.{rows_of}
use Rattle.request_causes.specs.Causes.{IsRowOf, stream_row}
use Rattle.request_causes.proofs.rows.placed_rows.Given as goal

abbrev pub invariant-loop-place : goal.invariant-loop-place
invariant-loop-place l = record {
  places : All (IsRowOf (map service_parts_value l.services)) l.rows.items;
  all : map stream_row l.rows.items ≡ rows_of (map service_parts_value (take l.place l.services));
}
