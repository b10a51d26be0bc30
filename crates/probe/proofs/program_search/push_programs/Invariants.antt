use Rattle.std.proofs.Common.{◌≡◌, ◌++◌, drop}
use Rattle.probe.specs.Programs.{programs_of}
use Rattle.probe.proofs.program_search.push_programs.Given as goal

abbrev pub invariant-loop-row : goal.invariant-loop-row
invariant-loop-row l = l.programs.items ++ programs_of (drop l.row-index l.rows) ≡ l.initial.programs.items ++ programs_of l.rows
