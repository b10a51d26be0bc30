use Rattle.std.proofs.Common.{rules, ◌≡◌, true, false, None, length, refl, ap, ◌∙◌, sym}
use Rattle.std.specs.Prelude.{is_some}
use Rattle.std.proofs.lemmas.List.{length-map}
use Rattle.request.specs.Parts.{input_parts_value, parts_value}
use Rattle.request.specs.Ranges.{has_good_top, are_inputs, are_services}
use Rattle.request.proofs.FaultLaws.{bad_top, bad_lists, stream_count_is, has_few_streams}
use Rattle.request_causes.proofs.FaultLaws.{answer_then}
use Rattle.request_causes.proofs.RangeLaws.{good_of, bad_of, bad_inputs, lists_are}
use Rattle.request_causes.proofs.range_causes.range_cause.Goals as goal

pub returns-in-Some-clause-some : goal.returns-in-Some-clause-some
returns-in-Some-clause-some c =
    let p = parts_value c.args.parts.now in
    sym (bad_top p (bad_of (has_good_top p) (sym c.in-Some.ensures.some)))

pub returns-in-Some-inputs_cause-clause-some : goal.returns-in-Some-inputs_cause-clause-some
returns-in-Some-inputs_cause-clause-some c =
    let p = parts_value c.args.parts.now in
    let topped : c.top_cause.result ≡ None = search rules in
    let top : has_good_top p ≡ true = good_of (has_good_top p) (sym c.top_cause.ensures.some ∙ ap is_some topped) in
    sym (bad_lists p top (bad_inputs p (bad_of (are_inputs p.inputs) (sym c.in-Some-inputs_cause.ensures.some))))

pub returns-in-Some-services_cause-clause-some : goal.returns-in-Some-services_cause-clause-some
returns-in-Some-services_cause-clause-some c =
    let p = parts_value c.args.parts.now in
    let many : length p.inputs ≡ length c.args.parts.now.inputs.items = length-map c.args.parts.now.inputs.items input_parts_value in
    let topped : c.top_cause.result ≡ None = search rules in
    let filled : c.inputs_cause.result ≡ None = search rules in
    let top : has_good_top p ≡ true = good_of (has_good_top p) (sym c.top_cause.ensures.some ∙ ap is_some topped) in
    let inputs : are_inputs p.inputs ≡ true = good_of (are_inputs p.inputs) (sym c.inputs_cause.ensures.some ∙ ap is_some filled) in
    let services : are_services (length p.inputs) p.services ≡ false =
    ap (λ n. are_services n p.services) many ∙ bad_of (are_services (length c.args.parts.now.inputs.items) p.services) (sym c.in-Some-services_cause.ensures.some) in
    sym (bad_lists p top (lists_are p false inputs services))

pub returns-clause-some : goal.returns-clause-some
returns-clause-some c =
    let p = parts_value c.args.parts.now in
    let many : length p.inputs ≡ length c.args.parts.now.inputs.items = length-map c.args.parts.now.inputs.items input_parts_value in
    let topped : c.top_cause.result ≡ None = search rules in
    let filled : c.inputs_cause.result ≡ None = search rules in
    let served : c.services_cause.result ≡ None = search rules in
    let top : has_good_top p ≡ true = good_of (has_good_top p) (sym c.top_cause.ensures.some ∙ ap is_some topped) in
    let inputs : are_inputs p.inputs ≡ true = good_of (are_inputs p.inputs) (sym c.inputs_cause.ensures.some ∙ ap is_some filled) in
    let services : are_services (length p.inputs) p.services ≡ true =
    ap (λ n. are_services n p.services) many
    ∙ good_of (are_services (length c.args.parts.now.inputs.items) p.services) (sym c.services_cause.ensures.some ∙ ap is_some served) in
    answer_then c.stream_count_cause.result c.stream_count_cause.ensures.some
    (λ found e. e ∙ sym (stream_count_is p (has_few_streams p) top (lists_are p true inputs services) refl))
