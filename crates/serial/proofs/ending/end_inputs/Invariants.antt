use Rattle.std.proofs.Common.{◌≡◌, map}
use Rattle.serial.specs.Ending.{ended_of}
use Rattle.serial.proofs.ending.end_inputs.Given as goal

abbrev pub invariant-loop-input : goal.invariant-loop-input
invariant-loop-input g l = l.ended.items ≡ map ended_of l.yielded
