use Rattle.std.proofs.Common.{◌≡◌}
use Rattle.worker.proofs.sender.end.Given as goal

abbrev pub invariant-loop : goal.invariant-loop
invariant-loop g l = record {
  port : l.port ≡ l.fn.port;
  stops : g.G.Gate.stops l.gate ≡ g.G.Gate.stops l.fn.gate;
}
