use Rattle.std.proofs.Common.{◌≡◌, ℕ, ◌+◌, ◌<◌, ◌≤◌, Some, None, get_or}
use Rattle.analyse.proofs.gap_watches.GapWatches.next_due.Given as goal

abbrev pub invariant-loop-since : goal.invariant-loop-since
invariant-loop-since l =
    (k first : ℕ) → k < l.since-index → get_or l.self-inside.since.items k None ≡ Some first → l.count ≤ first + l.self-inside.limit → l.due ≤ first + l.self-inside.limit
