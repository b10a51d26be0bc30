use Rattle.std.proofs.Common.{rules, ◌≡◌, map, false, true, None, refl}
use Rattle.std.specs.List.{list_any}
use Rattle.acquire.specs.Seen.{findings_of}
use Rattle.request.specs.Request.{service_value}
use Rattle.request.specs.declared.service.Service.{Service}
use Rattle.selection.specs.Chosen.{lacks_row}
use Rattle.plan_causes.specs.Causes.{IsRowLack}
use Rattle.plan_causes.proofs.FindLaws.{found_passes}
use Rattle.plan_causes.proofs.ServiceLaws.{none_lacks, one_lacks, service_is, some_not_none}
use Rattle.plan_causes.proofs.choice_causes.row_cause.Goals as goal

pub returns-in_err-service-clause-fault : goal.returns-in_err-service-clause-fault
returns-in_err-service-clause-fault c =
    let none : c.from_residual.result ≡ None = search rules in
    let lacks : list_any (lacks_row (map findings_of c.args.found.now)) c.args.request.now.services ≡ false =
    none_lacks (lacks_row (map findings_of c.args.found.now)) c.services.result.now c.args.request.now.services (search rules) (search rules) in
    rw none (rw lacks refl)

pub returns-in_err-lack-clause-fault : goal.returns-in_err-lack-clause-fault
returns-in_err-lack-clause-fault c =
    let passes : lacks_row (map findings_of c.args.found.now) (service_value c.in_ok-service.service.now) ≡ true =
    found_passes (λ (s : Service). lacks_row (map findings_of c.args.found.now) (service_value s)) c.services.result.now c.in_ok-service.service.now (search rules) in
    absurd (some_not_none c.row_lack.result (search rules) (search rules))

pub returns-clause-fault : goal.returns-clause-fault
returns-clause-fault c =
    let lacks : list_any (lacks_row (map findings_of c.args.found.now)) c.args.request.now.services ≡ true =
    one_lacks (lacks_row (map findings_of c.args.found.now)) c.services.result.now c.args.request.now.services c.in_ok-service.service.now (search rules) (search rules) in
    rw lacks refl

pub returns-clause-cause : goal.returns-clause-cause
returns-clause-cause c =
    service_is (lacks_row (map findings_of c.args.found.now)) (λ s. IsRowLack (map findings_of c.args.found.now) s c.in_ok-lack.lack)
    c.args.request.now c.services.result.now c.in_ok-service.service.now c.of.result (search rules) (search rules) (search rules) (search rules)
