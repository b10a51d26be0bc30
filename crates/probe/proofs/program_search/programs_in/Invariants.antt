use Rattle.std.proofs.Common.{◌≡◌, ◌++◌, drop}
use Rattle.probe.specs.Programs.{programs_of, rows_of}
use Rattle.probe.proofs.program_search.programs_in.Given as goal

abbrev pub invariant-loop-section : goal.invariant-loop-section
invariant-loop-section l = l.programs.items ++ programs_of (rows_of (drop l.section-index l.sections)) ≡ programs_of (rows_of l.sections)
