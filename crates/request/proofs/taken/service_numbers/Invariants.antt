use Rattle.std.proofs.Common.{◌≡◌, take, map}
use Rattle.request.specs.Parts.{ServicePartsValue, service_parts_value}
use Rattle.request.proofs.taken.service_numbers.Given as goal

abbrev pub invariant-loop-service : goal.invariant-loop-service
invariant-loop-service l = l.numbers.items ≡ map (λ (s : ServicePartsValue). s.service) (map service_parts_value (take l.service-index l.services))
