use Rattle.outcome.proofs.ReportLaws.{ArePeaksOfFirst}
use Rattle.outcome.proofs.ending.end_streams.Given as goal

abbrev pub invariant-loop-stream : goal.invariant-loop-stream
invariant-loop-stream l = ArePeaksOfFirst l.mux.run.schedule l.mux.events l.stream l.peaks.items
