use Rattle.std.proofs.Common.{◌≡◌, map}
use Rattle.request.specs.Parts.{input_parts_value}
use Rattle.request.specs.Request.{input_of, input_value}
use Rattle.request.proofs.build.make_inputs.Given as goal

abbrev pub invariant-loop-input : goal.invariant-loop-input
invariant-loop-input l = map input_value l.inputs.items ≡ map input_of (map input_parts_value l.yielded)
