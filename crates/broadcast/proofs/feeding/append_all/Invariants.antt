use Rattle.std.proofs.Common.{◌≡◌, ◌≤◌, ◌-◌, ◌++◌, length, drop}
use Rattle.broadcast.proofs.feeding.append_all.Given as goal

abbrev pub invariant-loop-appended : goal.invariant-loop-appended
invariant-loop-appended g l = record {
  count : l.appended ≤ length l.sent;
  feed : l.feed ≡ record l.fn.feed { behind = l.feed.behind };
  order : l.feed.behind ++ drop l.appended l.sent ≡ l.fn.feed.behind ++ drop l.fn.appended l.sent;
}

abbrev pub decreases-loop-appended : goal.decreases-loop-appended
decreases-loop-appended g l = length l.sent - l.appended
