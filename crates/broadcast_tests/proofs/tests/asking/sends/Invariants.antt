use Rattle.std.proofs.Common.{◌≡◌}
use Rattle.broadcast_tests.proofs.tests.asking.sends.Given as goal

abbrev pub invariant-loop : goal.invariant-loop
invariant-loop g l =
    (l.broadcast.feed ≡ l.fn.broadcast.feed)
    × (l.broadcast.station.history.run ≡ l.fn.broadcast.station.history.run)
