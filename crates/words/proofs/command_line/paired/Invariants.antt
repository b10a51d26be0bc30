use Rattle.std.proofs.Common.{◌≡◌, map, take}
use Rattle.std.specs.List.{All}
use Rattle.words.specs.Ranges.{IsAllowedSwitch}
use Rattle.words.proofs.command_line.paired.Given as goal

-- the slots so far are in their range, and the plans so far are the first of those given
abbrev pub invariant-loop-number : goal.invariant-loop-number
invariant-loop-number l = All IsAllowedSwitch l.later.items × (map (λ pair. pair.1) l.later.items ≡ take l.number l.fn.plans)
