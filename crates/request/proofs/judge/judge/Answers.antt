use Rattle.std.proofs.Common.{ap, sym, ◌∙◌, map, List}
use Rattle.std.proofs.lemmas.List.{length-map}
use Rattle.request.specs.declared.service_parts.ServiceParts.{ServiceParts}
use Rattle.request.specs.Parts.{service_parts_value, parts_value}
use Rattle.request.specs.Request.{has_service_twice, has_pid_twice}
use Rattle.request.proofs.FaultLaws.{out_of_range, service_taken, pid_taken, no_fault, services_fit}
use Rattle.request.proofs.judge.judge.Goals as goal

pub returns-in_default-clause-fault : goal.returns-in_default-clause-fault
returns-in_default-clause-fault c = out_of_range (parts_value c.args.parts.now) c.in_default.ensures.bad

pub has_service_twice-requires : goal.has_service_twice-requires
has_service_twice-requires c =
    rw c.deref.ensures.value (rw (length-map c.args.parts.now.services.items service_parts_value) at (services_fit (parts_value c.args.parts.now) c.in-Some.ensures.good))

pub returns-then-has_service_twice-clause-fault : goal.returns-then-has_service_twice-clause-fault
returns-then-has_service_twice-clause-fault c =
    service_taken (parts_value c.args.parts.now) c.in-Some.ensures.good
    (ap (λ (xs : List ServiceParts). has_service_twice (map service_parts_value xs)) (sym c.deref.ensures.value) ∙ sym c.has_service_twice.ensures ∙ c.if-has_service_twice.true)

pub has_pid_twice-requires-clause-services : goal.has_pid_twice-requires-clause-services
has_pid_twice-requires-clause-services c =
    rw c.deref-2.ensures.value (rw (length-map c.args.parts.now.services.items service_parts_value) at (services_fit (parts_value c.args.parts.now) c.in-Some.ensures.good))

pub returns-then-has_pid_twice-clause-fault : goal.returns-then-has_pid_twice-clause-fault
returns-then-has_pid_twice-clause-fault c =
    pid_taken (parts_value c.args.parts.now) c.in-Some.ensures.good
    (ap (λ (xs : List ServiceParts). has_service_twice (map service_parts_value xs)) (sym c.deref.ensures.value) ∙ sym c.has_service_twice.ensures ∙ c.if-has_service_twice.false)
    (ap (λ (xs : List ServiceParts). has_pid_twice (map service_parts_value xs)) (sym c.deref-2.ensures.value) ∙ sym c.has_pid_twice.ensures ∙ c.if-has_pid_twice.true)

pub returns-clause-faultless : goal.returns-clause-faultless
returns-clause-faultless c =
    no_fault (parts_value c.args.parts.now) c.in-Some.ensures.good
    (ap (λ (xs : List ServiceParts). has_service_twice (map service_parts_value xs)) (sym c.deref.ensures.value) ∙ sym c.has_service_twice.ensures ∙ c.if-has_service_twice.false)
    (ap (λ (xs : List ServiceParts). has_pid_twice (map service_parts_value xs)) (sym c.deref-2.ensures.value) ∙ sym c.has_pid_twice.ensures ∙ c.if-has_pid_twice.false)
