use Rattle.std.proofs.Common.{◌≡◌, ◌++◌, filter, take}
use Rattle.analyse.specs.ProgramsWatching.{is_program}
use Rattle.analyse.proofs.program_rows.push_programs.Given as goal

abbrev pub invariant-loop-row : goal.invariant-loop-row
invariant-loop-row l = l.rows.items ≡ l.fn.rows.items ++ filter is_program (take l.row-index l.from)
