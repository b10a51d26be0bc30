use Rattle.std.proofs.Common.{rules, ◌≡◌, map, false, true, None, refl}
use Rattle.std.specs.List.{list_any}
use Rattle.acquire.specs.Seen.{findings_of}
use Rattle.selection.specs.Chosen.{lacks_program}
use Rattle.plan_causes.proofs.ServiceLaws.{none_lacks, one_lacks, service_lacks}
use Rattle.plan_causes.proofs.choice_causes.program_cause.Goals as goal

pub returns-in_err-service-clause-fault : goal.returns-in_err-service-clause-fault
returns-in_err-service-clause-fault c =
    let none : c.from_residual.result ≡ None = search rules in
    let lacks : list_any (lacks_program c.args.request.now (map findings_of c.args.found.now)) c.args.request.now.services ≡ false =
    none_lacks (lacks_program c.args.request.now (map findings_of c.args.found.now)) c.services.result.now c.args.request.now.services (search rules) (search rules) in
    rw none (rw lacks refl)

pub returns-clause-fault : goal.returns-clause-fault
returns-clause-fault c =
    let lacks : list_any (lacks_program c.args.request.now (map findings_of c.args.found.now)) c.args.request.now.services ≡ true =
    one_lacks (lacks_program c.args.request.now (map findings_of c.args.found.now)) c.services.result.now c.args.request.now.services c.in_ok-service.service.now (search rules) (search rules) in
    rw lacks refl

pub returns-clause-cause : goal.returns-clause-cause
returns-clause-cause c =
    service_lacks (lacks_program c.args.request.now (map findings_of c.args.found.now)) (λ s. lacks_program c.args.request.now (map findings_of c.args.found.now) s ≡ true)
    (λ s h. h) c.args.request.now c.services.result.now c.in_ok-service.service.now c.of.result (search rules) (search rules) (search rules)
