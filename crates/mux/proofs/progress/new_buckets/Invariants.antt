use Rattle.std.proofs.Common.{◌≡◌, map, take}
use Rattle.mux.specs.KeptBucket.{fresh_bucket}
use Rattle.mux.proofs.progress.new_buckets.Given as goal

abbrev pub invariant-loop-stream : goal.invariant-loop-stream
invariant-loop-stream l = l.buckets.items ≡ map (fresh_bucket l.rate) (take l.stream-index l.streams)
