use Rattle.std.proofs.Common.{◌≡◌, List, Some, slice_get, length, map, refl, ap, ◌∙◌, sym}
use Rattle.std.specs.Prelude.{option_map}
use Rattle.std.proofs.lemmas.Option.{slice_get-map, slice_get_read}
use Rattle.request.specs.declared.input_parts.InputParts.{InputParts}
use Rattle.request.specs.Parts.{input_parts_value}
use Rattle.request_causes.proofs.range_causes.first_input_cause.Goals as goal

pub returns-in-Some-clause-cause : goal.returns-in-Some-clause-cause
returns-in-Some-clause-cause c =
    let rows = c.as_slice-inputs.result.now in
    let i = c.index-inputs-input.result in
    let place = c.loop-input.input in
    let at : slice_get rows place ≡ Some i = slice_get_read rows (length rows) place i refl c.loop-input-test.true c.index-inputs-input.is in
    let here : slice_get (map input_parts_value c.args.parts.now.inputs.items) place ≡ Some (input_parts_value i) =
    ap (λ (xs : List InputParts). slice_get (map input_parts_value xs) place) (sym c.as_slice-inputs.ensures.value)
    ∙ slice_get-map input_parts_value rows place
    ∙ ap (option_map input_parts_value) at in
    (input_parts_value i, here, c.in-Some.ensures.cause)
