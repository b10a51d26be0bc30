use Rattle.std.proofs.Common.{rules, ◌≡◌, true, false, None, ap, ◌∙◌, sym}
use Rattle.std.specs.Prelude.{is_some}
use Rattle.std.specs.List.{list_any}
use Rattle.request.specs.Parts.{input_parts_value}
use Rattle.request_causes.specs.RangeCauses.{is_outside, input_numbers}
use Rattle.request_causes.proofs.RangeLaws.{bad_input_number, size_left}
use Rattle.request_causes.proofs.range_causes.input_cause.Goals as goal

pub returns-in-Some-clause-some : goal.returns-in-Some-clause-some
returns-in-Some-clause-some c = bad_input_number (input_parts_value c.args.input.now) (sym c.in-Some.ensures.some)

pub returns-in_err-size-clause-some : goal.returns-in_err-size-clause-some
returns-in_err-size-clause-some c =
    let none : c.find_outside_input.result ≡ None = search rules in
    let good : list_any is_outside (input_numbers (input_parts_value c.args.input.now)) ≡ false = sym c.find_outside_input.ensures.some ∙ ap is_some none in
    let right : is_some c.find_wrong_size.result ≡ false = search rules in
    let nothing : is_some c.from_residual.result ≡ false = search rules in
    size_left (input_parts_value c.args.input.now) _ good (nothing ∙ sym right ∙ c.find_wrong_size.ensures.some)

pub returns-clause-some : goal.returns-clause-some
returns-clause-some c =
    let none : c.find_outside_input.result ≡ None = search rules in
    let good : list_any is_outside (input_numbers (input_parts_value c.args.input.now)) ≡ false = sym c.find_outside_input.ensures.some ∙ ap is_some none in
    let wrong : is_some c.find_wrong_size.result ≡ true = search rules in
    size_left (input_parts_value c.args.input.now) _ good (sym wrong ∙ c.find_wrong_size.ensures.some)
