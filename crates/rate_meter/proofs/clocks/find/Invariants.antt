use Rattle.std.proofs.Common.{◌≡◌, take, false}
use Rattle.rate_meter.specs.Meter.{has_clock}
use Rattle.rate_meter.proofs.clocks.find.Given as goal

abbrev pub invariant-loop-clock : goal.invariant-loop-clock
invariant-loop-clock l = has_clock l.pid (take l.clock-index l.clocks) ≡ false
