use Rattle.std.proofs.Common.{◌≡◌, take}
use Rattle.schedule.specs.Keeping.{places_in}
use Rattle.schedule.proofs.all_streams.places_in.Given as goal

abbrev pub invariant-loop-stream : goal.invariant-loop-stream
invariant-loop-stream l = l.places.items ≡ places_in l.all (take l.stream-index l.streams)
