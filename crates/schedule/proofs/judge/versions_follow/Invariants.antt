use Rattle.std.proofs.Common.{◌≡◌, ℕ, ◌+◌, ◌%◌, ◌<◌}
use Rattle.schedule.specs.Schedule.{schedule_of, plan_at}
use Rattle.schedule.proofs.judge.versions_follow.Given as goal

abbrev pub invariant-loop-number : goal.invariant-loop-number
invariant-loop-number l =
    (k : ℕ) → k < l.number
    → (plan_at (schedule_of l.first l.later) (k + 1)).request.version ≡ ((plan_at (schedule_of l.first l.later) k).request.version + 1) % 32
