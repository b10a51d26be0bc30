use Rattle.std.proofs.Common.{ℕ, ◌+◌, ◌<◌}
use Rattle.schedule.specs.Schedule.{schedule_of, span_at}
use Rattle.schedule.specs.Switches.{IsSwitchSlot}
use Rattle.schedule.proofs.judge.slots_follow.Given as goal

abbrev pub invariant-loop-number : goal.invariant-loop-number
invariant-loop-number l =
    let s = schedule_of l.first l.later in
    (k : ℕ) → k < l.number → IsSwitchSlot s.first.request.period (span_at s k).slot (span_at s (k + 1)).slot
