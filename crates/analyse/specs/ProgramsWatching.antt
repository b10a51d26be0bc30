-- What is kept of the sections of the PAT: those in force, and their rows of programs.
use Rattle.std.specs.Prelude.{◌≡◌, ◌==◌, Bool, not, List, Option, is_some, option_and_then, filter, filter_map, reverse}
use Rattle.std.specs.List.{flat_map, range_with_len}
use Rattle.section.specs.declared.told.Told.{Told}
use Rattle.tables.specs.InForce.{SectionValue, in_force}
use Rattle.tables.specs.Kept.{StandsFor}
use Rattle.tables.specs.Pat.{PatValue}
use Rattle.tables.specs.OnPid.{section_in, pat_section_of}
use Rattle.tables.specs.declared.pat_row.PatRow.{PatRow}
use Rattle.analyse.specs.InForce.{rows_of_section}

-- what is kept: the sections in force, and the rows
pub record ProgramsState : Type 0 where
  pub run : List (SectionValue PatValue)
  pub rows : List PatRow

abbrev pub as_section : PatValue → SectionValue PatValue
as_section v = record { header = v.header; table = v }

-- what was told, as a section of the PAT
abbrev pub pat_in : Told → Option (SectionValue PatValue)
pat_in t = option_and_then pat_section_of (section_in t)

abbrev pub is_pat_in : Told → Bool
is_pat_in t = is_some (pat_in t)

abbrev pub pats_in : List Told → List (SectionValue PatValue)
pats_in told = filter_map pat_section_of (filter_map section_in told)

-- a row of a program
abbrev pub is_program : PatRow → Bool
is_program r = not (r.program_number == 0)

abbrev pub programs_of_section : Option (SectionValue PatValue) → List PatRow
programs_of_section s = filter is_program (rows_of_section s)

-- the rows of programs of what is in force among these sections, newest first
unfoldable pub program_rows_of : List (SectionValue PatValue) → List PatRow
program_rows_of sections = filter is_program (flat_map (λ n. rows_of_section (in_force sections n)) (range_with_len 0 256))

-- these sections came, oldest first
pub record HasRows (w : ProgramsState) (sections : List (SectionValue PatValue)) : Type 0 where
  pub run : StandsFor w.run (reverse sections)
  pub rows : w.rows ≡ program_rows_of (reverse sections)
