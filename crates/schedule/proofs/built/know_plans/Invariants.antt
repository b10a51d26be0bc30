use Rattle.std.proofs.Common.{ℕ, ◌<◌, get_or}
use Rattle.plan.specs.Build.{PlanValue}
use Rattle.plan.specs.Built.{IsBuilt}
use Rattle.schedule.proofs.built.know_plans.Given as goal

abbrev pub invariant-loop-after : goal.invariant-loop-after
invariant-loop-after l = (k : ℕ) (d : ℕ × PlanValue) → k < l.after-index → IsBuilt (get_or l.later k d).1
