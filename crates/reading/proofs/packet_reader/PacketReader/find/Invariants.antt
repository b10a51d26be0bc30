use Rattle.std.proofs.Common.{◌≡◌, Some}
use Rattle.std.specs.Prelude.{IsSome}
use Rattle.reading.specs.declared.stop.Stop.TheVariants.{Memory}
use Rattle.reading.specs.Items.{left_to_read}
use Rattle.reading.specs.PacketReading.{ReadsOn, GoesOn}
use Rattle.reading.proofs.packet_reader.PacketReader.find.Given as goal

abbrev pub invariant-loop-number : goal.invariant-loop-number
invariant-loop-number g l = record {
  read : ReadsOn g.R.Source.remaining l.schedule l.fn.self l.self;
  goes : GoesOn g.R.Source.failures l.fn.self l.self;
  stays : IsSome l.fn.self.held → l.self ≡ l.fn.self;
  unrefused : l.self.report.stopped ≡ Some Memory → l.fn.self.report.stopped ≡ Some Memory;
}

abbrev pub decreases-loop-number : goal.decreases-loop-number
decreases-loop-number g l = left_to_read l.self.stream.items
