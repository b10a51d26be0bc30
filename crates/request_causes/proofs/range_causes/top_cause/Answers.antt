use Rattle.std.proofs.Common.{rules, ◌≡◌, false, not, None, ap, ◌∙◌, sym}
use Rattle.std.specs.Prelude.{is_some}
use Rattle.std.specs.List.{list_any}
use Rattle.request.specs.Parts.{parts_value}
use Rattle.request.specs.Ranges.{is_network_name}
use Rattle.request_causes.specs.RangeCauses.{is_outside, top_numbers}
use Rattle.request_causes.proofs.RangeLaws.{bad_top_number, bad_name, descriptors_left}
use Rattle.request_causes.proofs.range_causes.top_cause.Goals as goal

pub returns-in-Some-clause-some : goal.returns-in-Some-clause-some
returns-in-Some-clause-some c = bad_top_number (parts_value c.args.parts.now) (sym c.in-Some.ensures.some)

pub returns-in-Some-name_cause-clause-some : goal.returns-in-Some-name_cause-clause-some
returns-in-Some-name_cause-clause-some c = bad_name (parts_value c.args.parts.now) (sym c.in-Some-name_cause.ensures.some)

pub returns-clause-some : goal.returns-clause-some
returns-clause-some c =
    let p = parts_value c.args.parts.now in
    let ranged : c.find_outside_top.result ≡ None = search rules in
    let named : c.name_cause.result ≡ None = search rules in
    let numbers : list_any is_outside (top_numbers p) ≡ false = sym c.find_outside_top.ensures.some ∙ ap is_some ranged in
    let name : not (is_network_name p.network_name) ≡ false = sym c.name_cause.ensures.some ∙ ap is_some named in
    descriptors_left p _ numbers name c.descriptors_cause.ensures.some
