use Rattle.std.proofs.Common.{◌≡◌, take}
use Rattle.schedule.proofs.schedule.copy_later.Given as goal

abbrev pub invariant-loop-after : goal.invariant-loop-after
invariant-loop-after l = l.copied.items ≡ take l.after-index l.later
