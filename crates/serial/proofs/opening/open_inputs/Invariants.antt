use Rattle.serial.specs.Opening.{AreOpened}
use Rattle.serial.proofs.opening.open_inputs.Given as goal

abbrev pub invariant-loop-reader : goal.invariant-loop-reader
invariant-loop-reader g l = AreOpened g.R.Source.remaining g.R.Source.failures l.limit l.schedule l.yielded l.inputs.items
