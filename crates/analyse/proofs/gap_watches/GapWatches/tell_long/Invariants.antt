use Rattle.std.proofs.Common.{◌≡◌, ◌++◌}
use Rattle.analyse.specs.GapsWatching.{long_gaps}
use Rattle.analyse.proofs.gap_watches.GapWatches.tell_long.Given as goal

abbrev pub invariant-loop-pid : goal.invariant-loop-pid
invariant-loop-pid l = l.out.items ≡ l.fn.out.items ++ long_gaps l.self l.also l.kind l.count l.pid
