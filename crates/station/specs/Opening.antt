-- A station of which nothing was taken or sent (profile).
use Rattle.std.specs.Prelude.{◌≡◌, ℕ, List, [], length, false, None, Some}
use Rattle.std.specs.List.{slice_get}
use Rattle.schedule.specs.Schedule.{ScheduleValue}
use Rattle.mux.specs.History.{opened}
use Rattle.mux.specs.Lawful.{input_count}
use Rattle.port.specs.Rings.{PortValue, RingEndValue}
use Rattle.station.specs.Stations.{Input, StationValue}

-- an input of which nothing came
abbrev pub new_entry : RingEndValue → Input
new_entry end = record { inlet = end; is_closed = false }

-- The port of the input with this number, which sent nothing, and the input, of which nothing came, are of one ring.
pub record IsFresh (i : ℕ) (port : PortValue) (x : Input) : Type 0 where
  pub ring : x.inlet.ring ≡ port.ring
  pub number : port.ring.input ≡ i
  pub unsent : port.sent ≡ []
  pub unreceived : x.inlet.received ≡ []
  pub unheld : x.inlet.head ≡ None
  pub open_ : x.is_closed ≡ false

-- the station of a schedule, and the port of each input, in its order
pub record IsOpened (schedule : ScheduleValue) (limit : ℕ) (station : StationValue) (ports : List PortValue) : Type 0 where
  pub history : station.history ≡ opened schedule limit
  pub inputs_are : length station.inputs ≡ input_count schedule
  pub ports_are : length ports ≡ input_count schedule
  pub each : (i : ℕ) (port : PortValue) (x : Input)
      → slice_get ports i ≡ Some port → slice_get station.inputs i ≡ Some x → IsFresh i port x
