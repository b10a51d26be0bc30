use Rattle.std.proofs.Common.{◌≡◌, take, map}
use Rattle.request.specs.Request.{stream_of}
use Rattle.request.proofs.build.make_streams.Given as goal

abbrev pub invariant-loop-row : goal.invariant-loop-row
invariant-loop-row l = l.streams.items ≡ map stream_of (take l.row-index l.rows)
