use Rattle.std.proofs.Common.{◌≡◌, take, map}
use Rattle.request.specs.Parts.{service_parts_value}
use Rattle.request_causes.specs.Causes.{numbers_of}
use Rattle.request_causes.proofs.pid_causes.service_numbers.Given as goal

abbrev pub invariant-loop-service : goal.invariant-loop-service
invariant-loop-service l = l.numbers.items ≡ numbers_of (map service_parts_value (take l.service-index l.services))
