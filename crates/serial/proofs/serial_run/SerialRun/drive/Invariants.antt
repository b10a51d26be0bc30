use Rattle.std.proofs.Common.{◌≡◌, ℕ, List, Option}
use Rattle.mux.specs.History.{Run}
use Rattle.reading.specs.declared.input_limit.InputLimit.{InputLimit}
use Rattle.serial.specs.Running.{IsRunning, GoesOn, steps_left}
use Rattle.serial.proofs.GoingLaws.{fine}
use Rattle.serial.proofs.serial_run.SerialRun.drive.Given as goal

abbrev pub invariant-loop : goal.invariant-loop
invariant-loop g l = record {
  running : (run : Run) × (limit : InputLimit) × (starts : List (Option (List ℕ))) × IsRunning g.R.Source.remaining run limit starts l.self;
  run : l.self.mux.run ≡ l.fn.self.mux.run;
  goes : GoesOn g.R.Source.remaining g.R.Source.failures g.W.Sink.contents g.W.Sink.failures l.fn.self l.fn.sink fine l.self l.sink;
}

abbrev pub decreases-loop : goal.decreases-loop
decreases-loop g l = steps_left l.fn.self.mux.run l.self.mux.events
