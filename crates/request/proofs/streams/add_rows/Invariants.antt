use Rattle.std.proofs.Common.{◌≡◌, drop, map}
use Rattle.request.specs.Request.{row_of}
use Rattle.request.specs.Collected.{with_rows}
use Rattle.request.proofs.streams.add_rows.Given as goal

abbrev pub invariant-loop-stream : goal.invariant-loop-stream
invariant-loop-stream l =
    with_rows l.found.items (map (row_of l.service.input) (drop l.stream-index l.stream-items))
    ≡ with_rows l.fn.found.items (map (row_of l.service.input) l.service.streams.items)
