use Rattle.std.proofs.Common.{◌≡◌, map}
use Rattle.measuring.specs.Metering.{AreNewMeters, source_of}
use Rattle.measuring.proofs.metered.with_meters.Given as goal

abbrev pub invariant-loop-source : goal.invariant-loop-source
invariant-loop-source g l = record {
  sources : map source_of l.all.items ≡ l.yielded;
  meters : AreNewMeters g.M.Meter.shown l.plan l.all.items;
}
