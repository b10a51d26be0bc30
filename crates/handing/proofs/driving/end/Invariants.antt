use Rattle.std.proofs.Common.{◌≡◌}
use Rattle.handing.proofs.driving.end.Given as goal

abbrev pub invariant-loop : goal.invariant-loop
invariant-loop g l = record { sender : l.sender ≡ l.fn.sender }
