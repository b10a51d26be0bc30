-- The programs of a stream (ISO/IEC 13818-1, 2.4.4.3 and 2.4.4.5).
use Rattle.std.specs.Prelude.{ℕ, ◌==◌, not, Bool, List, [], unwrap_or, filter}
use Rattle.std.specs.List.{flat_map}
use Rattle.tables.specs.Pat.{PatValue}
use Rattle.tables.specs.declared.pat_row.PatRow.{PatRow}
use Rattle.acquire.specs.Findings.{pat_found}

-- a row with program_number 0 names the network's PID, and no program
abbrev pub is_program : PatRow → Bool
is_program r = not (r.program_number == 0)

-- the rows of programs among some
abbrev pub programs_of : List PatRow → List PatRow
programs_of rows = filter is_program rows

-- the rows of a PAT's sections, in their order
abbrev pub rows_of : List PatValue → List PatRow
rows_of sections = flat_map (λ (s : PatValue). s.rows) sections

-- the programs of the first complete PAT among packets
abbrev pub programs_among : List (List ℕ) → List PatRow
programs_among packets = programs_of (unwrap_or (pat_found packets) [])
