-- What the watches of the PMTs and of the PIDs to which they refer know of the slots so far.
use Rattle.std.specs.Prelude.{◌≡◌, ℕ, ◌+◌, ◌<◌, ◌==◌, not, if◌then◌else◌, List, length, ◌++◌, Option, Some, None}
use Rattle.tspkt.specs.Packet.{pid_of, transport_scrambling_control_of}
use Rattle.tspkt.specs.declared.packet.TheConstants.{PID_COUNT}
use Rattle.analyse.specs.InForce.{is_pmt_pid_behind, is_referred_behind}
use Rattle.analyse.specs.Faults.{is_pmt_watched, is_pmt_mark, is_pid_watched, is_pid_mark, is_pmt_bad_at, is_pid_missing_at, told_of_pids}
use Rattle.analyse.specs.GapsWatching.{GapsState, is_watched, HaveSeenNumbers}
use Rattle.analyse.specs.PmtWatching.{PmtState, HaveSeenPmts}
use Rattle.analyse.specs.declared.fault_kind.FaultKind.TheVariants.{PmtError2, PidError}
use Rattle.analyse.specs.declared.fault.Fault.{Fault}

pub record TablesState : Type 0 where
  pub pmts : List (Option PmtState)
  pub pmt_gaps : GapsState
  pub pid_gaps : GapsState

-- the PID of a scrambled packet
abbrev pub scrambled_pid : Option (List ℕ) → Option ℕ
scrambled_pid None = None
scrambled_pid (Some packet) = if not (transport_scrambling_control_of packet == 0) then Some (pid_of packet) else None

-- a PID that is watched
abbrev pub watched_only : GapsState → Option ℕ → Option ℕ
watched_only w None = None
watched_only w (Some pid) = if is_watched w pid then Some pid else None

-- the gaps' watches have seen the numbers of slots up to theirs, and watch what is watched behind the slots
pub record HaveSeenTables (w : TablesState) (slots : List (List ℕ)) : Type 0 where
  pub pmts : HaveSeenPmts w.pmts slots
  pub pmt_gaps : HaveSeenNumbers w.pmt_gaps (is_pmt_watched slots) (is_pmt_mark slots) (length slots + 1)
  pub pid_gaps : HaveSeenNumbers w.pid_gaps (is_pid_watched slots) (is_pid_mark slots) (length slots + 1)
  pub pmt_pids : (pid : ℕ) → pid < PID_COUNT → is_watched w.pmt_gaps pid ≡ is_pmt_pid_behind slots pid
  pub referred : (pid : ℕ) → pid < PID_COUNT → is_watched w.pid_gaps pid ≡ is_referred_behind slots pid

-- PMT_error_2 and PID_error at slot m
abbrev pub table_faults_at : ℕ → ℕ → List (List ℕ) → ℕ → List Fault
table_faults_at limit period slots m =
    told_of_pids (is_pmt_bad_at limit slots m) PmtError2 m ++ told_of_pids (is_pid_missing_at period slots m) PidError m
