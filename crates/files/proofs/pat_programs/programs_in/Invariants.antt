use Rattle.std.proofs.Common.{◌≡◌, ◌++◌, drop}
use Rattle.files.specs.PatPrograms.{programs_of, rows_of}
use Rattle.files.proofs.pat_programs.programs_in.Given as goal

abbrev pub invariant-loop-section : goal.invariant-loop-section
invariant-loop-section l = l.numbers.items ++ programs_of (rows_of (drop l.section-index l.sections)) ≡ programs_of (rows_of l.sections)
