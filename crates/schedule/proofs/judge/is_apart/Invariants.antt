use Rattle.std.proofs.Common.{ℕ, ◌+◌, ◌<◌}
use Rattle.schedule.specs.Schedule.{schedule_of, plan_at}
use Rattle.schedule.specs.Switches.{ReusesNoPid}
use Rattle.schedule.proofs.judge.is_apart.Given as goal

abbrev pub invariant-loop-number : goal.invariant-loop-number
invariant-loop-number l =
    let s = schedule_of l.first l.later in
    (k : ℕ) → k < l.number → ReusesNoPid (plan_at s k).request (plan_at s l.before).request (plan_at s (l.before + 1)).request
