-- What stations send doesn't depend on how they go on: tick by tick, step by step, or both in turn (profile).
use Rattle.std.specs.Prelude.{◌≡◌, ◌⊎◌, ℕ, true, Some}
use Rattle.std.specs.List.{slice_get}
use Rattle.tspkt.specs.declared.stamped.Stamped.{Stamped}
use Rattle.schedule.specs.Schedule.{ScheduleValue}
use Rattle.mux.specs.History.{slots, emitted}
use Rattle.mux.specs.Headline.{IsSound}
use Rattle.mux.specs.Faithful.{PacketLists, IsPrefix}
use Rattle.inlets.specs.Turns.{IsRefusedForGood}
use Rattle.station.specs.Stations.{Input, StationValue, IsLawfulStation}

-- what each station keeps, however it went on
pub record IsStation (schedule : ScheduleValue) (s : StationValue) : Type 0 where
  pub schedule_is : s.history.run.schedule ≡ schedule
  pub sound : IsSound s.history
  pub lawful : IsLawfulStation s.history s.inputs

-- Through the rings come these packets, one list an input: what came out of an input's ring begins its list, and is all of it where
-- the end mark came; and each of them can be taken in its turn.
pub record IsGiven (lists : PacketLists) (s : StationValue) : Type 0 where
  pub begins : (i : ℕ) (x : Input) → slice_get s.inputs i ≡ Some x → IsPrefix x.inlet.received (lists i)
  pub whole : (i : ℕ) (x : Input) → slice_get s.inputs i ≡ Some x → x.inlet.is_ended ≡ true → lists i ≡ x.inlet.received
  pub takeable : (i : ℕ) (x : Input) (item : Stamped)
      → slice_get s.inputs i ≡ Some x → x.inlet.head ≡ Some item → IsRefusedForGood s.history i item → ⊥

-- Of two stations of one schedule that are given the same packets, what one sent begins what the other sent.
abbrev pub StationsAgree : Type 0
StationsAgree =
    (schedule : ScheduleValue) (lists : PacketLists) (a b : StationValue)
    → IsStation schedule a → IsGiven lists a → IsStation schedule b → IsGiven lists b
    → IsPrefix (emitted schedule a.history.events) (emitted schedule b.history.events)
    ⊎ IsPrefix (emitted schedule b.history.events) (emitted schedule a.history.events)

-- And where they sent as many slots they sent the same packets.
abbrev pub SlotsAgree : Type 0
SlotsAgree =
    (schedule : ScheduleValue) (lists : PacketLists) (a b : StationValue)
    → IsStation schedule a → IsGiven lists a → IsStation schedule b → IsGiven lists b
    → slots a.history.events ≡ slots b.history.events
    → emitted schedule a.history.events ≡ emitted schedule b.history.events
