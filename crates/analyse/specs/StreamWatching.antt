-- What the watches of a stream know of the slots so far, from which the faults of the next slot follow.
use Rattle.std.specs.Prelude.{◌≡◌, ℕ, List, length, Option, Some, None}
use Rattle.tspkt.specs.Packet.{pid_of}
use Rattle.analyse.specs.Faults.{table_limit}
use Rattle.analyse.specs.SyncWatching.{SyncState, HasSeenSlots}
use Rattle.analyse.specs.PatWatching.{PatState, HasSeenPat}
use Rattle.analyse.specs.CounterWatching.{CounterState}
use Rattle.analyse.specs.CountersWatching.{HaveSeenPids}
use Rattle.analyse.specs.TablesWatching.{TablesState, HaveSeenTables}

pub record StreamState : Type 0 where
  pub count : ℕ
  pub sync : SyncState
  pub pat : PatState
  pub counters : List (Option CounterState)
  pub tables : TablesState

abbrev pub pid_or_zero : Option (List ℕ) → ℕ
pid_or_zero None = 0
pid_or_zero (Some packet) = pid_of packet

-- the watches of a stream of this rate and period have seen these slots
pub record HaveSeenStream (rate period : ℕ) (w : StreamState) (slots : List (List ℕ)) : Type 0 where
  pub count : w.count ≡ length slots
  pub pat_limit : w.pat.gap.limit ≡ table_limit rate
  pub pmt_limit : w.tables.pmt_gaps.limit ≡ table_limit rate
  pub period_is : w.tables.pid_gaps.limit ≡ period
  pub sync : HasSeenSlots w.sync slots
  pub pat : HasSeenPat w.pat slots
  pub counters : HaveSeenPids w.counters slots
  pub tables : HaveSeenTables w.tables slots
