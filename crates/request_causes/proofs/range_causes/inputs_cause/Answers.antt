use Rattle.std.proofs.Common.{◌≡◌, true, false, length, map}
use Rattle.std.proofs.lemmas.List.{length-map}
use Rattle.request.specs.Limits.{MAX_INPUTS}
use Rattle.request.specs.Parts.{input_parts_value}
use Rattle.request.specs.Ranges.{is_count_between}
use Rattle.request_causes.proofs.RangeLaws.{bad_input_count, inputs_left}
use Rattle.request_causes.proofs.range_causes.inputs_cause.Goals as goal

pub returns-else-is_count-clause-some : goal.returns-else-is_count-clause-some
returns-else-is_count-clause-some c =
    let rows = c.args.parts.now.inputs.items in
    let many : length (map input_parts_value rows) ≡ length rows = length-map rows input_parts_value in
    let count : is_count_between 1 MAX_INPUTS (length (map input_parts_value rows)) ≡ false = cc in
    bad_input_count (map input_parts_value rows) count

pub returns-then-is_count-clause-some : goal.returns-then-is_count-clause-some
returns-then-is_count-clause-some c =
    let rows = c.args.parts.now.inputs.items in
    let many : length (map input_parts_value rows) ≡ length rows = length-map rows input_parts_value in
    let count : is_count_between 1 MAX_INPUTS (length (map input_parts_value rows)) ≡ true = cc in
    inputs_left (map input_parts_value rows) _ count c.first_input_cause.ensures.some
