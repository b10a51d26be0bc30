use Rattle.std.proofs.Common.{rules, ◌≡◌, Bool, map, false, true, None, refl}
use Rattle.std.specs.List.{list_any}
use Rattle.selection.specs.Chosen.{ChosenValue, lacks_rate, streams_of}
use Rattle.selection.specs.ChosenView.{chosen_value}
use Rattle.selection.specs.declared.chosen_service.ChosenService.{ChosenService}
use Rattle.plan_causes.specs.Causes.{IsMissing}
use Rattle.plan_causes.proofs.FindLaws.{none_passes, one_passes, found_passes}
use Rattle.plan_causes.proofs.ServiceLaws.{chosen_is, some_not_none}
use Rattle.plan_causes.proofs.program_causes.rate_cause.Goals as goal

pub returns-in_err-service-clause-fault : goal.returns-in_err-service-clause-fault
returns-in_err-service-clause-fault c =
    let test : ChosenValue → Bool = (λ (x : ChosenValue). lacks_rate (streams_of c.args.request.now x.service) x.pmt) in
    let none : c.from_residual.result ≡ None = search rules in
    let passes : list_any test (map chosen_value c.args.chosen.now) ≡ false = none_passes test chosen_value c.args.chosen.now (search rules) in
    rw none (rw passes refl)

pub returns-in_err-stream-clause-fault : goal.returns-in_err-stream-clause-fault
returns-in_err-stream-clause-fault c =
    let test : ChosenValue → Bool = (λ (x : ChosenValue). lacks_rate (streams_of c.args.request.now x.service) x.pmt) in
    let passes : test (chosen_value c.in_ok-service.service.now) ≡ true =
    found_passes (λ (s : ChosenService). test (chosen_value s)) c.args.chosen.now c.in_ok-service.service.now (search rules) in
    absurd (some_not_none c.missing_stream.result (search rules) (search rules))

pub returns-clause-fault : goal.returns-clause-fault
returns-clause-fault c =
    let test : ChosenValue → Bool = (λ (x : ChosenValue). lacks_rate (streams_of c.args.request.now x.service) x.pmt) in
    let passes : list_any test (map chosen_value c.args.chosen.now) ≡ true = one_passes test chosen_value c.args.chosen.now c.in_ok-service.service.now (search rules) in
    rw passes refl

pub returns-clause-cause : goal.returns-clause-cause
returns-clause-cause c =
    chosen_is (λ (x : ChosenValue). lacks_rate (streams_of c.args.request.now x.service) x.pmt) (λ x. IsMissing (streams_of c.args.request.now x.service) x.pmt c.in_ok-stream.stream)
    c.args.chosen.now c.in_ok-service.service.now c.of-numbers.result (search rules) (search rules) (search rules)
