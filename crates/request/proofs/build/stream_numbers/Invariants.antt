use Rattle.std.proofs.Common.{◌≡◌, take, map}
use Rattle.request.specs.Request.{row_of, stream_number}
use Rattle.request.proofs.build.stream_numbers.Given as goal

abbrev pub invariant-loop-stream : goal.invariant-loop-stream
invariant-loop-stream l = l.numbers.items ≡ map (stream_number l.streams) (map (row_of l.service.input) (take l.stream-index l.stream-items))
