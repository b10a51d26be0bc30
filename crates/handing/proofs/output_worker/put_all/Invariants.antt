use Rattle.std.proofs.Common.{take}
use Rattle.handing.proofs.WritingLaws.{Puts}
use Rattle.handing.proofs.output_worker.put_all.Given as goal

abbrev pub invariant-loop-packet : goal.invariant-loop-packet
invariant-loop-packet g l = record { puts : Puts g.W.Sink.contents g.W.Sink.failures l.fn.outlet (take l.packet-index l.packets) l.outlet }
