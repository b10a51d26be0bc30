use Rattle.std.proofs.Common.{◌≡◌, take}
use Rattle.schedule.specs.Keeping.{times_of}
use Rattle.schedule.proofs.schedule.switch_times.Given as goal

abbrev pub invariant-loop-after : goal.invariant-loop-after
invariant-loop-after l = l.times.items ≡ times_of l.first (take l.after-index l.later)
