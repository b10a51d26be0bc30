use Rattle.std.proofs.Common.{ℕ, ◌<◌}
use Rattle.schedule.specs.Schedule.{schedule_of}
use Rattle.schedule.specs.Switches.{IsApart}
use Rattle.schedule.proofs.judge.no_pid_is_reused.Given as goal

abbrev pub invariant-loop-before : goal.invariant-loop-before
invariant-loop-before l = (k : ℕ) → k < l.before → IsApart (schedule_of l.first l.later) k
