-- How what a run sent is handed on to its output (profile).
use Rattle.std.specs.Prelude.{◌≡◌, ℕ, List, ◌++◌, true}
use Rattle.mux.specs.History.{emitted}
use Rattle.relay.specs.Relays.{RelayId, FinishedValue}
use Rattle.outcome.specs.Taking.{IsOver}
use Rattle.station.specs.Stations.{StationValue}
use Rattle.handing.specs.Driving.{IsSameRun}
use Rattle.handing.specs.Outputs.{packets_in}

-- the packets that the run of a station sent
abbrev pub sent_of : StationValue → List (List ℕ)
sent_of s = emitted s.history.run.schedule s.history.events

-- The run went on, and these blocks have all the packets that it sent meanwhile.
pub record HandsAll (old new : StationValue) (blocks : List (List (List ℕ))) : Type 0 where
  pub same : IsSameRun old new
  pub sent : sent_of new ≡ sent_of old ++ packets_in blocks

-- The run went on, and these blocks have the first of the packets that it sent meanwhile.
pub record HandsSome (old new : StationValue) (blocks : List (List (List ℕ))) : Type 0 where
  pub same : IsSameRun old new
  pub rest : List (List ℕ)
  pub sent : sent_of new ≡ (sent_of old ++ packets_in blocks) ++ rest

-- The run went on, these blocks have the first of the packets that it sent meanwhile, and the block in hand has the others.
pub record HandsAllBut (old new : StationValue) (blocks : List (List (List ℕ))) (block : List (List ℕ)) : Type 0 where
  pub same : IsSameRun old new
  pub sent : sent_of new ≡ (sent_of old ++ packets_in blocks) ++ block

-- The run went on, and the sender of this relay sent the first of the packets that it sent meanwhile. Where the sender sent the end
-- mark it sent all of them, and the run went on to its end.
pub record IsHandedOn (old new : StationValue) (relay : RelayId) (finished : FinishedValue) : Type 0 where
  pub relay_is : finished.sender.relay ≡ relay
  pub some : HandsSome old new finished.sender.sent
  pub all : finished.is_ended ≡ true → HandsAll old new finished.sender.sent
  pub over : finished.is_ended ≡ true → IsOver new.history.run new.history.events
