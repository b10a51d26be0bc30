use Rattle.std.proofs.Common.{◌≡◌, drop, map}
use Rattle.std.specs.List.{list_any}
use Rattle.request.specs.Parts.{service_parts_value}
use Rattle.request.specs.Request.{names_pid_twice}
use Rattle.request_causes.proofs.pid_causes.naming_cause.Given as goal

abbrev pub invariant-loop-service : goal.invariant-loop-service
invariant-loop-service l = list_any names_pid_twice (map service_parts_value l.services) ≡ list_any names_pid_twice (map service_parts_value (drop l.service l.services))
