use Rattle.std.proofs.Common.{ℕ, List, subst}
use Rattle.plan.specs.Build.{PlanValue}
use Rattle.schedule.specs.Schedule.{schedule_of}
use Rattle.schedule.specs.Switches.{IsScheduleFault}
use Rattle.schedule.proofs.schedule.Schedule.build.Goals as goal

pub returns-in-Some-clause-fault : goal.returns-in-Some-clause-fault
returns-in-Some-clause-fault c =
    subst (λ (ws : List (ℕ × PlanValue)). IsScheduleFault (schedule_of c.args.first ws) c.in-Some.fault) c.deref.ensures.value c.in-Some.ensures.some.0
