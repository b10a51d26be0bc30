use Rattle.std.proofs.Common.{◌≡◌, take}
use Rattle.schedule.specs.Streams.{new_of}
use Rattle.schedule.proofs.all_streams.new_of.Given as goal

abbrev pub invariant-loop-stream : goal.invariant-loop-stream
invariant-loop-stream l = l.new.items ≡ new_of l.known (take l.stream-index l.streams)
