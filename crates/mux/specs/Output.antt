-- For the code: what is kept of the packets that went out. No public clause cites it.
use Rattle.std.specs.Prelude.{ℕ, ◌≡◌, List, [], ◌∷◌, All}
use Rattle.tspkt.specs.Packet.{IsPacket}
use Rattle.mux.specs.declared.standing.Standing.{Standing}
use Rattle.mux.specs.declared.standing.Standing.TheVariants.{Nothing, Null, Other}
use Rattle.mux.specs.PidCounters.{counters_of}

-- the packet that stands in a place, if there is one
abbrev pub stands_there : Standing → List ℕ → List ℕ → List (List ℕ)
stands_there Nothing null other = []
stands_there Null null other = null ∷ []
stands_there Other null other = other ∷ []

-- whole packets, and the counters that come next
pub record IsOutput (packets : List (List ℕ)) (counters : List ℕ) : Type 0 where
  pub whole : All IsPacket packets
  pub counters_are : counters ≡ counters_of packets
