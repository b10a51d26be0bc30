use Rattle.std.proofs.Common.{◌≡◌, false}
use Rattle.marks.specs.Marks.{Begins}
use Rattle.recorder.specs.Recording.{HasWritten, ReadsOn}
use Rattle.recorder.proofs.recorder.Recorder.record_to.Given as goal

abbrev pub invariant-loop-step : goal.invariant-loop-step
invariant-loop-step g l = record {
  given : l.self.given ≡ l.fn.self.given;
  reads : ReadsOn l.fn.self.reader l.self.reader;
  known : Begins l.fn.mark l.self.reader.known;
  written : HasWritten (g.W.Sink.contents l.self.given) (g.W.Sink.contents l.self.sink) l.self.has_failed l.self.reader.read;
  failed : l.self.has_failed ≡ false;
  failures : g.W.Sink.failures l.self.sink ≡ g.W.Sink.failures l.fn.self.sink;
}
