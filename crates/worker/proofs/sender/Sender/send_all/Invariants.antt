use Rattle.std.proofs.Common.{◌≡◌, None}
use Rattle.worker.specs.Sending.{SendsOn}
use Rattle.worker.proofs.sender.Sender.send_all.Given as goal

abbrev pub invariant-loop : goal.invariant-loop
invariant-loop g l = record {
  sent : SendsOn g.R.Source.remaining g.R.Source.failures l.fn.self l.self;
  stops : g.G.Gate.stops l.self.gate ≡ g.G.Gate.stops l.fn.self.gate;
  held : l.self.reader.held ≡ None;
}
