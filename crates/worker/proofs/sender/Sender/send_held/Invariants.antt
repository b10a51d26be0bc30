use Rattle.std.proofs.Common.{◌≡◌}
use Rattle.worker.proofs.sender.Sender.send_held.Given as goal

abbrev pub invariant-loop : goal.invariant-loop
invariant-loop g l = record {
  schedule : l.self.schedule ≡ l.fn.self.schedule;
  reader : l.self.reader ≡ l.fn.self.reader;
  port : l.self.port ≡ l.fn.self.port;
  stops : g.G.Gate.stops l.self.gate ≡ g.G.Gate.stops l.fn.self.gate;
}
