use Rattle.std.proofs.Common.{◌≡◌, take, map}
use Rattle.request.specs.Parts.{service_parts_value}
use Rattle.request.specs.Request.{service_of, service_value}
use Rattle.request.proofs.build.make_services.Given as goal

abbrev pub invariant-loop-service : goal.invariant-loop-service
invariant-loop-service l = map service_value l.made.items ≡ map (service_of l.streams) (map service_parts_value (take l.service-index l.services))
