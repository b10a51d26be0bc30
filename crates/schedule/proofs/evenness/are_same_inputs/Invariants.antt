use Rattle.std.proofs.Common.{◌≡◌, ℕ, ◌<◌, get_or}
use Rattle.request.specs.Request.{input_value}
use Rattle.request.specs.declared.input.Input.{Input}
use Rattle.schedule.proofs.evenness.are_same_inputs.Given as goal

abbrev pub invariant-loop-number : goal.invariant-loop-number
invariant-loop-number l = (k : ℕ) (d : Input) → k < l.number → input_value (get_or l.inputs k d) ≡ input_value (get_or l.others k d)
