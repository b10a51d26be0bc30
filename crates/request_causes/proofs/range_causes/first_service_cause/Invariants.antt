use Rattle.std.proofs.Common.{◌≡◌, not, drop, map}
use Rattle.std.specs.List.{list_any}
use Rattle.request.specs.Parts.{ServicePartsValue, service_parts_value}
use Rattle.request.specs.Ranges.{is_service}
use Rattle.request_causes.proofs.range_causes.first_service_cause.Given as goal

abbrev pub invariant-loop-service : goal.invariant-loop-service
invariant-loop-service l =
    list_any (λ (s : ServicePartsValue). not (is_service l.inputs s)) (map service_parts_value l.services)
    ≡ list_any (λ (s : ServicePartsValue). not (is_service l.inputs s)) (map service_parts_value (drop l.service l.services))
