-- What the tables of a stream say behind some of its slots: which PIDs carry a PMT, and which PIDs a PMT refers to.
-- ISO/IEC 13818-1, 2.4.4; which sections count is profile.
use Rattle.std.specs.Prelude.{ℕ, ◌==◌, Bool, false, ◌&&◌, not, List, [], Option, Some, None, option_and_then, find, filter, reverse}
use Rattle.std.specs.List.{flat_map, list_any, range_with_len}
use Rattle.tables.specs.InForce.{SectionValue, in_force}
use Rattle.tables.specs.Pat.{PatValue}
use Rattle.tables.specs.Pmt.{PmtValue}
use Rattle.tables.specs.OnPid.{pat_sections, pmts_on}
use Rattle.tables.specs.declared.pat_row.PatRow.{PatRow}
use Rattle.tables.specs.declared.pmt_row.PmtRow.{PmtRow}
use Rattle.analyse.specs.Slots.{packets_in}

abbrev pub rows_of_section : Option (SectionValue PatValue) → List PatRow
rows_of_section None = []
rows_of_section (Some s) = s.table.rows

-- the rows of the PAT in force behind these slots, in the order of section numbers; it need not be complete
unfoldable pub pat_rows_behind : List (List ℕ) → List PatRow
pat_rows_behind slots =
    let sections = reverse (pat_sections (packets_in slots)) in
    flat_map (λ n. rows_of_section (in_force sections n)) (range_with_len 0 256)

-- the rows of programs; a row with program_number 0 names the network's PID
abbrev pub program_rows_behind : List (List ℕ) → List PatRow
program_rows_behind slots = filter (λ (r : PatRow). not (r.program_number == 0)) (pat_rows_behind slots)

-- the PAT in force names it as the PID of a PMT
unfoldable pub is_pmt_pid_behind : List (List ℕ) → ℕ → Bool
is_pmt_pid_behind slots pid = list_any (λ (r : PatRow). r.pid == pid) (program_rows_behind slots)

-- the newest current PMT of a program on a PID
abbrev pub newest_pmt_on : List (List ℕ) → ℕ → ℕ → Option PmtValue
newest_pmt_on slots pid program =
    find (λ (v : PmtValue). v.header.current_next_indicator && v.header.table_id_extension == program) (reverse (pmts_on pid (packets_in slots)))

-- the PMT of a program: the newest current one on the PID of the program's first row
abbrev pub pmt_behind : List (List ℕ) → ℕ → Option PmtValue
pmt_behind slots program =
    option_and_then (λ (r : PatRow). newest_pmt_on slots r.pid program) (find (λ (r : PatRow). r.program_number == program) (program_rows_behind slots))

abbrev pub has_elementary_pid : ℕ → Option PmtValue → Bool
has_elementary_pid pid None = false
has_elementary_pid pid (Some v) = list_any (λ (r : PmtRow). r.elementary_pid == pid) v.rows

-- the PMT of some program of the PAT in force names it as an elementary PID
unfoldable pub is_referred_behind : List (List ℕ) → ℕ → Bool
is_referred_behind slots pid = list_any (λ (r : PatRow). has_elementary_pid pid (pmt_behind slots r.program_number)) (program_rows_behind slots)
