use Rattle.std.proofs.Common.{rules, ◌≡◌, true, false, None, ap, ◌∙◌, sym}
use Rattle.std.specs.Prelude.{is_some}
use Rattle.std.specs.List.{list_any}
use Rattle.std.proofs.lemmas.Int.{to_z-of_z}
use Rattle.request.specs.Parts.{service_parts_value}
use Rattle.request.specs.Ranges.{is_place}
use Rattle.request_causes.specs.RangeCauses.{is_outside, service_numbers}
use Rattle.request_causes.proofs.RangeLaws.{bad_place, bad_number, streams_left}
use Rattle.request_causes.proofs.range_causes.service_cause.Goals as goal
use mir.Val.{SFits}
use mir.Syntax.{w64}

pub returns-then-not-is_place-clause-some : goal.returns-then-not-is_place-clause-some
returns-then-not-is_place-clause-some c =
    let fits : SFits w64 c.args.service.now.input = search rules in
    let place : is_place c.args.inputs c.args.service.now.input ≡ false =
    ap (λ z. is_place c.args.inputs z) (sym (to_z-of_z w64 c.args.service.now.input fits)) ∙ sym c.is_place.ensures ∙ c.if-not-is_place.true in
    bad_place c.args.inputs (service_parts_value c.args.service.now) place

pub returns-in-Some-clause-some : goal.returns-in-Some-clause-some
returns-in-Some-clause-some c =
    let fits : SFits w64 c.args.service.now.input = search rules in
    let place : is_place c.args.inputs c.args.service.now.input ≡ true =
    ap (λ z. is_place c.args.inputs z) (sym (to_z-of_z w64 c.args.service.now.input fits)) ∙ sym c.is_place.ensures ∙ c.if-not-is_place.false in
    bad_number c.args.inputs (service_parts_value c.args.service.now) place (sym c.in-Some.ensures.some)

pub returns-clause-some : goal.returns-clause-some
returns-clause-some c =
    let s = service_parts_value c.args.service.now in
    let fits : SFits w64 c.args.service.now.input = search rules in
    let place : is_place c.args.inputs c.args.service.now.input ≡ true =
    ap (λ z. is_place c.args.inputs z) (sym (to_z-of_z w64 c.args.service.now.input fits)) ∙ sym c.is_place.ensures ∙ c.if-not-is_place.false in
    let none : c.find_outside_service.result ≡ None = search rules in
    let good : list_any is_outside (service_numbers s) ≡ false = sym c.find_outside_service.ensures.some ∙ ap is_some none in
    streams_left c.args.inputs s _ place good c.stream_cause.ensures.some
