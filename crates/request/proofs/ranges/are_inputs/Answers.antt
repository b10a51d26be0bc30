use Rattle.std.proofs.lemmas.List.{length-map}
use Rattle.std.proofs.lemmas.List.Folds.{list_all-map}
use Rattle.request.specs.Parts.{input_parts_value}
use Rattle.request.specs.Ranges.{is_input, are_inputs}
use Rattle.request.proofs.ranges.are_inputs.Goals as goal

pub returns-then-is_count : goal.returns-then-is_count
unfolding are_inputs
returns-then-is_count c = rw (length-map c.args.inputs.now input_parts_value, list_all-map is_input input_parts_value c.args.inputs.now, ← c.is_count.ensures, c.if-is_count.true) c.are_all_inputs.ensures
