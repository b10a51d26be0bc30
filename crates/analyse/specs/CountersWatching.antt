-- What the counter watches of all PIDs know of the slots so far: each of the packets of its own PID.
use Rattle.std.specs.Prelude.{◌≡◌, ◌≢◌, ℕ, ◌<◌, List, [], Option, Some, None, slice_index_or}
use Rattle.tspkt.specs.declared.packet.TheConstants.{PID_COUNT}
use Rattle.analyse.specs.Slots.{packets_of_pid}
use Rattle.analyse.specs.CounterWatching.{CounterState, HasSeenPackets}

-- a PID of which no packet came has no watch
abbrev pub HasSeenIfAny : Option CounterState → List (List ℕ) → Type 0
HasSeenIfAny None packets = packets ≡ []
HasSeenIfAny (Some w) packets = HasSeenPackets w packets

-- of each PID but that of null packets, which aren't watched
pub record HaveSeenPids (watches : List (Option CounterState)) (slots : List (List ℕ)) : Type 0 where
  pub pids : (pid : ℕ) → pid < PID_COUNT → pid ≢ 0x1FFF → HasSeenIfAny (slice_index_or watches pid None) (packets_of_pid pid slots)
