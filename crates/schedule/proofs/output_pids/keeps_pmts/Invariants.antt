use Rattle.std.specs.List.{AllWithin}
use Rattle.request.specs.Request.{service_value}
use Rattle.request.specs.declared.service.Service.{Service}
use Rattle.schedule.specs.Switches.{KeepsPmt}
use Rattle.schedule.proofs.output_pids.keeps_pmts.Given as goal

abbrev pub invariant-loop-service : goal.invariant-loop-service
invariant-loop-service l = AllWithin (λ (s : Service). KeepsPmt l.earlier l.before (service_value s)) l.services 0 l.service-index
