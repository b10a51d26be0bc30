use Rattle.std.proofs.Common.{◌<◌}
use Rattle.mux.specs.Lawful.{input_count}
use Rattle.example.proofs.first_run.take_all.Given as goal

-- the schedule stays
abbrev pub invariant-loop-item : goal.invariant-loop-item
invariant-loop-item l = l.input < input_count l.mux.run.schedule
