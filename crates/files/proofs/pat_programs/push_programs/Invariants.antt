use Rattle.std.proofs.Common.{◌≡◌, ◌++◌, drop}
use Rattle.files.specs.PatPrograms.{programs_of}
use Rattle.files.proofs.pat_programs.push_programs.Given as goal

abbrev pub invariant-loop-row : goal.invariant-loop-row
invariant-loop-row l = l.numbers.items ++ programs_of (drop l.row-index l.rows) ≡ l.initial.numbers.items ++ programs_of l.rows
