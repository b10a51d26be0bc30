use Rattle.std.proofs.Common.{◌≡◌, drop, map}
use Rattle.request.specs.Parts.{service_parts_value}
use Rattle.request.specs.Request.{rows_of, stream_rows_of}
use Rattle.request.specs.Collected.{with_rows}
use Rattle.request.proofs.streams.find_streams.Given as goal

abbrev pub invariant-loop-service : goal.invariant-loop-service
invariant-loop-service l =
    with_rows l.found.items (rows_of (map service_parts_value (drop l.service-index l.services)))
    ≡ stream_rows_of (map service_parts_value l.services)
