use Rattle.std.specs.List.{All}
use Rattle.words.specs.Ranges.{IsAllowedLeak}
use Rattle.words.proofs.leak.leaks_in.Given as goal

-- the leak rates so far are in their range
abbrev pub invariant-loop-word : goal.invariant-loop-word
invariant-loop-word l = All IsAllowedLeak l.leaks.items
