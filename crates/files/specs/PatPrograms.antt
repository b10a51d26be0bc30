-- The programs that a PAT names (ISO/IEC 13818-1, 2.4.4.5).
use Rattle.std.specs.Prelude.{ℕ, ◌==◌, if◌then◌else◌, List, Option, Some, None, filter_map}
use Rattle.std.specs.List.{flat_map}
use Rattle.tables.specs.Pat.{PatValue}
use Rattle.tables.specs.declared.pat_row.PatRow.{PatRow}

-- the program of a row; one with program_number 0 names the network's PID, and no program
abbrev pub program_of : PatRow → Option ℕ
program_of r = if r.program_number == 0 then None else Some r.program_number

abbrev pub programs_of : List PatRow → List ℕ
programs_of rows = filter_map program_of rows

-- the rows of a PAT's sections, in their order
abbrev pub rows_of : List PatValue → List PatRow
rows_of sections = flat_map (λ (s : PatValue). s.rows) sections
