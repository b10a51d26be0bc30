-- What acquisition finds in the packets of an input: the first complete PAT, behind it the first current PMT of each
-- wanted program, and the first complete SDT. The tables and their PIDs are those of ISO/IEC 13818-1, 2.4.4, and
-- EN 300 468, 5.1.3; which of their sections count is profile. Packets stand in the order in which they came.
use Rattle.std.specs.Prelude.{ℕ, ◌==◌, Bool, true, not, ◌&&◌, ◌||◌, if◌then◌else◌, List, [], ◌∷◌, ◌++◌, length, map, Option, Some, None, is_some, option_map, option_and_then, find}
use Rattle.std.specs.List.{flat_map}
use Rattle.tables.specs.InForce.{SectionValue, complete_table}
use Rattle.tables.specs.OnPid.{pat_sections, pmts_on, sdt_sections}
use Rattle.tables.specs.Pat.{PatValue}
use Rattle.tables.specs.Pmt.{PmtValue}
use Rattle.tables.specs.Sdt.{SdtValue}
use Rattle.tables.specs.declared.pat_row.PatRow.{PatRow}
use Rattle.tables.specs.declared.sdt_row.SdtRow.{SdtRow}

abbrev pub or_later : {V : Type 0} → Option V → Option V → Option V
or_later (Some x) later = Some x
or_later None later = later

-- the first complete table as the sections come, behind those that came before, which stand newest first
abbrev pub first_complete_behind : {V : Type 0} → List (SectionValue V) → List (SectionValue V) → Option (List (SectionValue V))
first_complete_behind before [] = None
first_complete_behind before (s ∷ later) = or_later (complete_table (s ∷ before)) (first_complete_behind (s ∷ before) later)

abbrev pub first_complete : {V : Type 0} → List (SectionValue V) → Option (List (SectionValue V))
first_complete sections = first_complete_behind [] sections

-- the rows of the first complete PAT, in the order of section numbers
abbrev pub pat_found : List (List ℕ) → Option (List PatRow)
pat_found packets = option_map (flat_map (λ (s : SectionValue PatValue). s.table.rows)) (first_complete (pat_sections packets))

-- the packets behind the one that completed the PAT
abbrev pub behind_pat_from : List (List ℕ) → List (List ℕ) → List (List ℕ)
behind_pat_from before [] = []
behind_pat_from before (packet ∷ later) =
    if is_some (pat_found (before ++ packet ∷ [])) then later else behind_pat_from (before ++ packet ∷ []) later

abbrev pub behind_pat : List (List ℕ) → List (List ℕ)
behind_pat packets = behind_pat_from [] packets

-- a row of the program: one with program_number 0 names the network's PID, and no program (ISO/IEC 13818-1, 2.4.4.5)
abbrev pub is_row_of_program : ℕ → PatRow → Bool
is_row_of_program program r = not (r.program_number == 0) && r.program_number == program

-- program_map_PID of a program: that of its first row
abbrev pub pmt_pid_of : ℕ → List PatRow → Option ℕ
pmt_pid_of program rows = option_map (λ (r : PatRow). r.pid) (find (is_row_of_program program) rows)

-- the first current PMT of a program on a PID
abbrev pub first_pmt_on : ℕ → ℕ → List (List ℕ) → Option PmtValue
first_pmt_on pid program packets =
    find (λ (v : PmtValue). v.header.current_next_indicator && v.header.table_id_extension == program) (pmts_on pid packets)

-- the PMT of a program: the first current one on the PID that the first complete PAT names, behind that PAT
abbrev pub pmt_found : ℕ → List (List ℕ) → Option PmtValue
pmt_found program packets =
    option_and_then (λ pid. first_pmt_on pid program (behind_pat packets)) (option_and_then (pmt_pid_of program) (pat_found packets))

-- the rows of the first complete SDT, in the order of section numbers
abbrev pub sdt_found : List (List ℕ) → Option (List SdtRow)
sdt_found packets = option_map (flat_map (λ (s : SectionValue SdtValue). s.table.rows)) (first_complete (sdt_sections packets))

-- what was found: the PMT of each wanted program, in their order, and the rows of the SDT
pub record Findings : Type 0 where
  pub pmts : List (Option PmtValue)
  pub sdt : Option (List SdtRow)

abbrev pub findings : List ℕ → List (List ℕ) → Findings
findings programs packets = record { pmts = map (λ program. pmt_found program packets) programs; sdt = sdt_found packets }

abbrev pub all_some : {V : Type 0} → List (Option V) → Bool
all_some [] = true
all_some (x ∷ xs) = is_some x && all_some xs

-- all that is wanted was found; where no program is wanted, nothing is
abbrev pub is_all_found : List ℕ → Findings → Bool
is_all_found programs f = length programs == 0 || (all_some f.pmts && is_some f.sdt)
