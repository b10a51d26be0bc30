-- What a watch of the PMTs of one PID knows of the slots so far, and what the watches of all PIDs do.
use Rattle.std.specs.Prelude.{◌≡◌, ℕ, ◌==◌, ◌&&◌, not, List, [], Option, Some, None, option_map, map, filter, find, reverse, slice_index_or}
use Rattle.std.specs.Global.{Box}
use Rattle.section.specs.Assembled.{AssemblerState, fresh, state_behind}
use Rattle.tables.specs.Pmt.{PmtValue}
use Rattle.tables.specs.OnPid.{packets_on, pmts_on}
use Rattle.tables.specs.declared.pmt_row.PmtRow.{PmtRow}
use Rattle.analyse.specs.Slots.{packets_in}
use Rattle.analyse.specs.PmtAssembling.{StandsFor}
use Rattle.analyse.specs.declared.pmt_assembly.PmtAssembly.{PmtAssembly}
use Rattle.analyse.specs.declared.pmt_assembly.PmtAssembly.TheVariants.{Between}

-- ---- what is kept

abbrev pub elementary_pids : List PmtRow → List ℕ
elementary_pids rows = map (λ (r : PmtRow). r.elementary_pid) rows

-- a program, and the elementary PIDs of its newest current PMT
pub record PmtPids : Type 0 where
  pub program : ℕ
  pub pids : List ℕ

-- those kept of a program, and all that is kept of other programs
abbrev pub pids_kept : List PmtPids → ℕ → Option (List ℕ)
pids_kept kept program = option_map (λ (p : PmtPids). p.pids) (find (λ (p : PmtPids). p.program == program) kept)

abbrev pub without : ℕ → List PmtPids → List PmtPids
without program kept = filter (λ (p : PmtPids). not (p.program == program)) kept

-- the newest current PMT of a program among these, oldest first
abbrev pub newest_of : List PmtValue → ℕ → Option PmtValue
newest_of pmts program = find (λ (v : PmtValue). v.header.current_next_indicator && v.header.table_id_extension == program) (reverse pmts)

-- these PMTs came, oldest first
pub record KeepsNewest (kept : List PmtPids) (pmts : List PmtValue) : Type 0 where
  pub pids : (program : ℕ) → pids_kept kept program ≡ option_map (λ (v : PmtValue). elementary_pids v.rows) (newest_of pmts program)

-- ---- one PID

pub record PmtState : Type 0 where
  pub assembly : PmtAssembly
  pub newest : List PmtPids

abbrev pub new_pmt_watch : PmtState
new_pmt_watch = record { assembly = Between; newest = [] }

-- the state of an assembler of the sections of a PID
abbrev pub assembler_behind : ℕ → List (List ℕ) → AssemblerState
assembler_behind pid slots = state_behind fresh (packets_on pid (packets_in slots))

pub record HasSeenPmts (pid : ℕ) (w : PmtState) (slots : List (List ℕ)) : Type 0 where
  pub sections : StandsFor w.assembly (assembler_behind pid slots)
  pub newest : KeepsNewest w.newest (pmts_on pid (packets_in slots))

-- ---- all PIDs

-- a PID of which no packet came that isn't scrambled has no watch
abbrev pub state_of : Option PmtState → PmtState
state_of None = new_pmt_watch
state_of (Some w) = w

abbrev pub boxed_state : Option (Box PmtState) → Option PmtState
boxed_state o = option_map (λ b. b.value) o

pub record HaveSeenPmts (watches : List (Option PmtState)) (slots : List (List ℕ)) : Type 0 where
  pub pids : (pid : ℕ) → HasSeenPmts pid (state_of (slice_index_or watches pid None)) slots

-- the elementary PIDs of the newest current PMT of a program on a PID
abbrev pub pids_of_program : List (Option PmtState) → ℕ → ℕ → Option (List ℕ)
pids_of_program watches pid program = pids_kept (state_of (slice_index_or watches pid None)).newest program
