-- What became of the packets of a port (profile).
use Rattle.std.specs.Prelude.{◌≡◌, List, [], ◌++◌, length, true, Some}
use Rattle.std.specs.List.{slice_get}
use Rattle.std.specs.Option.{option_to_list}
use Rattle.tspkt.specs.declared.stamped.Stamped.{Stamped}
use Rattle.mux.specs.History.{taken}
use Rattle.mux.specs.Totals.{told}
use Rattle.port.specs.Rings.{FinishedValue}
use Rattle.station.specs.declared.settled.Settled.{Settled}
use Rattle.station.specs.Stations.{Input, StationValue}

-- The port of an input sent the packets that were taken, and then the one that is shown, and then those that are left in the ring,
-- each once; and these are their numbers. None is left where the end mark came, which the port then sent.
pub record IsSettled (station : StationValue) (port : FinishedValue) (s : Settled) : Type 0 where
  pub input : Input
  pub input_is : slice_get station.inputs port.port.ring.input ≡ Some input
  pub left : List Stamped
  pub sent : port.port.sent ≡ (taken port.port.ring.input station.history.events ++ option_to_list input.inlet.head) ++ left
  pub taken_count : s.taken ≡ told (length (taken port.port.ring.input station.history.events))
  pub held_count : s.held ≡ length (option_to_list input.inlet.head)
  pub left_count : s.left ≡ length left
  pub marked : input.inlet.is_ended ≡ true → (port.is_ended ≡ true) × (left ≡ [])
