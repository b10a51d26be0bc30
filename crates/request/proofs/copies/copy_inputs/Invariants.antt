use Rattle.std.proofs.Common.{◌≡◌, map, take}
use Rattle.request.specs.Request.{input_value}
use Rattle.request.proofs.copies.copy_inputs.Given as goal

abbrev pub invariant-loop-input : goal.invariant-loop-input
invariant-loop-input l = map input_value l.copies.items ≡ map input_value (take l.input-index l.inputs)
