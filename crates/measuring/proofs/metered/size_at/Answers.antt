use Rattle.std.proofs.Common.{arith, ◌≡◌, ◌<◌, List, Some, slice_get, length, map, refl, ap, ◌∙◌, sym}
use Rattle.std.specs.Prelude.{option_map}
use Rattle.std.proofs.lemmas.List.{length-map}
use Rattle.std.proofs.lemmas.Option.{slice_get-map, slice_get_read}
use Rattle.request.specs.Request.{InputValue, input_value}
use Rattle.measuring.proofs.metered.size_at.Goals as goal

pub returns : goal.returns
returns c =
    let x = c.index-inputs-number.result in
    let xs = c.inputs.result.now in
    let within : c.args.number < length xs = omega (arith, c.requires, ap length c.inputs.ensures, length-map xs input_value) in
    let at : slice_get xs c.args.number ≡ Some x = slice_get_read xs (length xs) c.args.number x refl within c.index-inputs-number.is in
    ap (λ (ys : List InputValue). slice_get (map (λ (i : InputValue). i.size) ys) c.args.number) (sym c.inputs.ensures)
    ∙ slice_get-map (λ (i : InputValue). i.size) (map input_value xs) c.args.number
    ∙ ap (option_map (λ (i : InputValue). i.size)) (slice_get-map input_value xs c.args.number ∙ ap (option_map input_value) at)
