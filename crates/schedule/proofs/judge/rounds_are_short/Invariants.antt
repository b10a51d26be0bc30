use Rattle.std.proofs.Common.{ℕ, ◌+◌, ◌<◌}
use Rattle.schedule.specs.Schedule.{schedule_of, span_at}
use Rattle.schedule.specs.Switches.{IsShortAcross}
use Rattle.schedule.proofs.judge.rounds_are_short.Given as goal

abbrev pub invariant-loop-number : goal.invariant-loop-number
invariant-loop-number l =
    let s = schedule_of l.first l.later in
    (k : ℕ) → k < l.number → IsShortAcross (span_at s (k + 1)).plan.rounds
