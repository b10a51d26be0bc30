use Rattle.std.proofs.Common.{◌≡◌, length, ap, sym, ◌∙◌, arith}
use Rattle.std.proofs.lemmas.Grind.{common_steps}
use Rattle.std.proofs.lemmas.List.{length-map}
use Rattle.std.proofs.lemmas.Result.{IfOk-at_ok}
use Rattle.mux.specs.Lawful.{input_count}
use Rattle.station_tests.proofs.StationLaws.{one_tied, one_unsent}
use Rattle.station_tests.proofs.tests.opening.open.Goals as goal

pub returns-clause-tied : goal.returns-clause-tied
returns-clause-tied g c =
    let inputs : length c.inputs.result.now ≡ input_count c.single-schedule.result = sym (length-map c.inputs.result.now _) ∙ ap length (c.inputs.ensures ∙ (λ j. (c.plan.ensures j).request.inputs)) in
    let one : input_count c.single-schedule.result ≡ 1 = grind (arith, common_steps) in
    let is = IfOk-at_ok _ c.expect-station.ensures c.open.ensures in
    one_tied _ _ _ _ _ _ _ is one c.pop.ensures.items c.expect.ensures

pub returns-clause-unsent : goal.returns-clause-unsent
returns-clause-unsent g c =
    let inputs : length c.inputs.result.now ≡ input_count c.single-schedule.result = sym (length-map c.inputs.result.now _) ∙ ap length (c.inputs.ensures ∙ (λ j. (c.plan.ensures j).request.inputs)) in
    let one : input_count c.single-schedule.result ≡ 1 = grind (arith, common_steps) in
    let is = IfOk-at_ok _ c.expect-station.ensures c.open.ensures in
    one_unsent _ _ _ _ _ _ _ is one c.pop.ensures.items c.expect.ensures
