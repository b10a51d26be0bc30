use Rattle.std.proofs.Common.{◌≡◌, map, take}
use Rattle.request.specs.Request.{service_value}
use Rattle.request.proofs.copies.copy_services.Given as goal

abbrev pub invariant-loop-service : goal.invariant-loop-service
invariant-loop-service l = map service_value l.copies.items ≡ map service_value (take l.service-index l.services)
