use Rattle.std.proofs.Common.{ap}
use Rattle.mux.specs.SlotClock.{ClockValue}
use Rattle.mux.proofs.KeptBuckets.{fresh_before, fresh_are}
use Rattle.mux.proofs.progress.Progress.new.Goals as goal

pub invariant_of-result : goal.invariant_of-result
invariant_of-result c = fresh_before c.args.rate _ c.args.streams.now _ c.in_ok-new_buckets.ensures

pub returns-clause-buckets : goal.returns-clause-buckets
returns-clause-buckets c = fresh_are c.args.rate _ c.args.streams.now _ c.in_ok-new_buckets.ensures (ap (λ (x : ClockValue). x.slot) c.new.ensures)
