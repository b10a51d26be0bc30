-- The number of the stream with a PID of an input (profile).
use Rattle.std.specs.Prelude.{◌≡◌, ℕ, ◌+◌, ◌*◌, ◌==◌, nat_lt, ◌&&◌, if◌then◌else◌, List, Option, None, option_map, option_and_then, slice_get, slice_index_or}
use Rattle.std.specs.List.{position_from}
use Rattle.request.specs.declared.stream.Stream.{Stream}
use Rattle.tspkt.specs.declared.packet.TheConstants.{PID_COUNT}
use Rattle.plan.specs.declared.planned_stream.PlannedStream.{PlannedStream}

-- the place of the first stream with this input and PID, where there is one
abbrev pub stream_place : List Stream → ℕ → ℕ → Option ℕ
stream_place streams input pid = position_from (λ (s : Stream). s.input == input && s.pid == pid) 0 streams

-- a table with a cell for each PID of each of so many inputs
pub record StreamMapValue : Type 0 where
  pub inputs : ℕ
  pub numbers : List (Option ℕ)

-- what stands in the cell of a PID of an input, where there is one
abbrev pub number_at : StreamMapValue → ℕ → ℕ → Option ℕ
number_at m input pid =
    if nat_lt input m.inputs && nat_lt pid PID_COUNT then slice_index_or m.numbers (input * PID_COUNT + pid) None else None

-- the table has for each input and PID the place of the stream
abbrev pub IsMapOf : StreamMapValue → List Stream → Type 0
IsMapOf m streams = (input pid : ℕ) → number_at m input pid ≡ stream_place streams input pid

-- the stream of this number, as the multiplex knows it
abbrev pub planned_of : ℕ → Stream → PlannedStream
planned_of number s = record { number = number; output_pid = s.output_pid; leak = s.leak }

-- the stream with this PID of this input, where the plan has one
abbrev pub planned_stream : List Stream → ℕ → ℕ → Option PlannedStream
planned_stream streams input pid =
    option_and_then (λ n. option_map (planned_of n) (slice_get streams n)) (stream_place streams input pid)
