use Rattle.std.proofs.Common.{◌≡◌, [], drop, map}
use Rattle.request.specs.Collected.{with_rows}
use Rattle.request_causes.specs.Causes.{stream_row}
use Rattle.request_causes.proofs.stream_count.count_sources.Given as goal

abbrev pub invariant-loop-row : goal.invariant-loop-row
invariant-loop-row l = with_rows (map stream_row l.found.items) (map stream_row (drop l.row-index l.rows)) ≡ with_rows [] (map stream_row l.rows)
