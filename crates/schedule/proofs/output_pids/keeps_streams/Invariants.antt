use Rattle.std.specs.List.{AllWithin}
use Rattle.schedule.specs.Switches.{KeepsStream}
use Rattle.schedule.proofs.output_pids.keeps_streams.Given as goal

abbrev pub invariant-loop-stream : goal.invariant-loop-stream
invariant-loop-stream l = AllWithin (KeepsStream l.earlier l.before) l.streams 0 l.stream-index
