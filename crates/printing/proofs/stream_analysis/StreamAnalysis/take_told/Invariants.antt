use Rattle.std.proofs.Common.{◌≡◌, length}
use Rattle.printing.proofs.stream_analysis.StreamAnalysis.take_told.Given as goal

-- nothing but the items that are left changed
abbrev pub invariant-loop-item : goal.invariant-loop-item
invariant-loop-item g l = l.stream ≡ record l.fn.stream { items = record l.fn.stream.items { ahead = l.stream.items.ahead } }

abbrev pub decreases-loop-item : goal.decreases-loop-item
decreases-loop-item g l = length l.stream.items.ahead
