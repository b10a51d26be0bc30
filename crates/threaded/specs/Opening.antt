-- A run before its workers are started (profile).
use Rattle.std.specs.Prelude.{◌≡◌, ℕ, List}
use Rattle.std.specs.List.{zip}
use Rattle.schedule.specs.Schedule.{ScheduleValue}
use Rattle.port.specs.Rings.{PortValue}
use Rattle.station.specs.Stations.{StationValue}
use Rattle.station.specs.Opening.{IsOpened}

-- The station is open, and at each input's seat are its reader, its gate and its port.
pub record IsReady {R G : Type 0} (schedule : ScheduleValue) (slots : ℕ) (readers : List R) (gates : List G) (station : StationValue) (seats : List ((R × G) × PortValue)) : Type 0 where
  pub ports : List PortValue
  pub opened : IsOpened schedule slots station ports
  pub seats_are : seats ≡ zip (zip readers gates) ports
