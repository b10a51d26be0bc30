use Rattle.handing.proofs.WritingLaws.{Writes}
use Rattle.handing.proofs.output_worker.write_all.Given as goal

abbrev pub invariant-loop : goal.invariant-loop
invariant-loop g l = record { writes : Writes g.W.Sink.contents g.W.Sink.failures l.fn.receiver l.fn.outlet l.receiver l.outlet }
