use Rattle.std.proofs.Common.{◌≡◌, List, Some, All, IfSome}
use Rattle.rate_meter.specs.declared.seen.Seen.{Seen}
use Rattle.rate_meter.specs.Meter.{IsClockIn, measured_of}
use Rattle.rate_meter.proofs.MeasuredLaws.{NoneLonger}
use Rattle.rate_meter.proofs.clocks.longest.Given as goal

abbrev pub invariant-loop-clock : goal.invariant-loop-clock
invariant-loop-clock l = record {
  own : (seen : List Seen) → All (IsClockIn seen) l.clocks → IfSome l.found (λ m. measured_of m.pid seen ≡ Some m);
  most : NoneLonger l.clocks l.clock-index l.found;
}
