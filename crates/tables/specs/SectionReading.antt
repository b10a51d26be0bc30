-- Reading the sections of a PID packet by packet.
use Rattle.std.specs.Prelude.{ℕ, ◌==◌, Bool, ◌&&◌, if◌then◌else◌, List}
use Rattle.tspkt.specs.Packet.{pid_of, transport_scrambling_control_of}
use Rattle.section.specs.Assembled.{AssemblerState, Step, fresh, passed, packet_told, state_behind}
use Rattle.tables.specs.OnPid.{packets_on}

-- a packet of the PID that isn't scrambled
abbrev pub is_on : ℕ → List ℕ → Bool
is_on pid packet = pid_of packet == pid && transport_scrambling_control_of packet == 0

-- a reader of a PID, and what its assembler knows
pub record ReaderState : Type 0 where
  pub pid : ℕ
  pub assembler : AssemblerState

-- a reader of a PID behind packets
abbrev pub reader_on : ℕ → List (List ℕ) → ReaderState
reader_on pid packets = record { pid = pid; assembler = state_behind fresh (packets_on pid packets) }

-- one packet more; only those of the PID that aren't scrambled are given to the assembler
abbrev pub reader_step : ReaderState → List ℕ → Step
reader_step r packet = if is_on r.pid packet then packet_told r.assembler packet else passed r.assembler

abbrev pub reader_behind : ReaderState → List ℕ → ReaderState
reader_behind r packet = record { pid = r.pid; assembler = (reader_step r packet).state }
