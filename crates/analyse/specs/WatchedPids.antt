-- Which PIDs are watched, of the rows of programs of the PAT in force and of what is kept of the newest PMTs.
use Rattle.std.specs.Prelude.{ℕ, ◌==◌, Bool, false, List, Option, Some, None, option_map, option_and_then, find}
use Rattle.std.specs.List.{list_any}
use Rattle.tables.specs.declared.pat_row.PatRow.{PatRow}
use Rattle.analyse.specs.PmtWatching.{PmtState, pids_of_program}

abbrev pub is_pmt_pid_of : List PatRow → ℕ → Bool
is_pmt_pid_of rows pid = list_any (λ (r : PatRow). r.pid == pid) rows

-- the PID of a program's first row
abbrev pub first_pid : List PatRow → ℕ → Option ℕ
first_pid rows program = option_map (λ (r : PatRow). r.pid) (find (λ (r : PatRow). r.program_number == program) rows)

-- the elementary PIDs that are kept of a program
abbrev pub pids_of_row : List (Option PmtState) → List PatRow → ℕ → Option (List ℕ)
pids_of_row pmts rows program = option_and_then (λ pid. pids_of_program pmts pid program) (first_pid rows program)

abbrev pub is_listed : ℕ → Option (List ℕ) → Bool
is_listed pid None = false
is_listed pid (Some pids) = list_any (λ p. p == pid) pids

abbrev pub is_referred_of : List (Option PmtState) → List PatRow → ℕ → Bool
is_referred_of pmts rows pid = list_any (λ (r : PatRow). is_listed pid (pids_of_row pmts rows r.program_number)) rows
