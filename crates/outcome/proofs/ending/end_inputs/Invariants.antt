use Rattle.outcome.specs.Ending.{AreReported}
use Rattle.outcome.proofs.ending.end_inputs.Given as goal

abbrev pub invariant-loop-input : goal.invariant-loop-input
invariant-loop-input g l = AreReported l.mux.run.schedule l.mux.events l.yielded l.summaries.items l.lent.items
