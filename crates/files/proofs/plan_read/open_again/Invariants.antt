use Rattle.std.proofs.Common.{◌≡◌, length}
use Rattle.files.proofs.plan_read.open_again.Given as goal

-- one reader for each input so far
abbrev pub invariant-loop-input : goal.invariant-loop-input
invariant-loop-input g l = length l.readers.items ≡ l.input-index
