use Rattle.std.proofs.Common.{◌≡◌, ◌++◌, map, take, drop}
use Rattle.rate_meter.specs.Meter.{clock_behind}
use Rattle.rate_meter.proofs.clocks.read.Given as goal

abbrev pub invariant-loop-clock : goal.invariant-loop-clock
invariant-loop-clock l =
    l.clock-items ≡ map (clock_behind l.pid l.reading) (take l.clock-index l.initial.clock-items) ++ drop l.clock-index l.initial.clock-items
