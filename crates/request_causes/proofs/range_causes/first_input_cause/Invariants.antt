use Rattle.std.proofs.Common.{◌≡◌, not, drop, map}
use Rattle.std.specs.List.{list_any}
use Rattle.request.specs.Parts.{InputPartsValue, input_parts_value}
use Rattle.request.specs.Ranges.{is_input}
use Rattle.request_causes.proofs.range_causes.first_input_cause.Given as goal

abbrev pub invariant-loop-input : goal.invariant-loop-input
invariant-loop-input l =
    list_any (λ (i : InputPartsValue). not (is_input i)) (map input_parts_value l.inputs)
    ≡ list_any (λ (i : InputPartsValue). not (is_input i)) (map input_parts_value (drop l.input l.inputs))
