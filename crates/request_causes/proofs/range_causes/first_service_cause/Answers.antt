use Rattle.std.proofs.Common.{arith, ◌≡◌, List, Some, slice_get, length, map, refl, ap, ◌∙◌, sym, subst}
use Rattle.std.specs.Prelude.{option_map}
use Rattle.std.proofs.lemmas.List.{length-map}
use Rattle.std.proofs.lemmas.Option.{slice_get-map, slice_get_read}
use Rattle.request.specs.declared.service_parts.ServiceParts.{ServiceParts}
use Rattle.request.specs.Parts.{input_parts_value, service_parts_value}
use Rattle.request_causes.specs.RangeCauses.{IsServiceCause}
use Rattle.request_causes.proofs.range_causes.first_service_cause.Goals as goal

pub returns-in-Some-clause-cause : goal.returns-in-Some-clause-cause
returns-in-Some-clause-cause c =
    let inputs = c.args.parts.now.inputs.items in
    let rows = c.as_slice-services.result.now in
    let s = c.index-services-service.result in
    let place = c.loop-service.service in
    let at : slice_get rows place ≡ Some s = slice_get_read rows (length rows) place s refl c.loop-service-test.true c.index-services-service.is in
    let here : slice_get (map service_parts_value c.args.parts.now.services.items) place ≡ Some (service_parts_value s) =
    ap (λ (xs : List ServiceParts). slice_get (map service_parts_value xs) place) (sym c.as_slice-services.ensures.value)
    ∙ slice_get-map service_parts_value rows place
    ∙ ap (option_map service_parts_value) at in
    let many : c.len-inputs.result ≡ length inputs = omega arith in
    let count : c.len-inputs.result ≡ length (map input_parts_value inputs) = many ∙ sym (length-map inputs input_parts_value) in
    (service_parts_value s, here, subst (λ n. IsServiceCause n (service_parts_value s) c.in-Some.cause) count c.in-Some.ensures.cause)
