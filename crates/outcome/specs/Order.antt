-- The order of an input's packets (profile).
use Rattle.std.specs.Prelude.{ℕ, ◌+◌, ◌-◌, ◌*◌, ◌<◌, ◌≤◌, List, [], ◌∷◌, length}
use Rattle.tspkt.specs.declared.stamped.Stamped.{Stamped}
use Rattle.schedule.specs.Schedule.{ScheduleValue}
use Rattle.reading.specs.Takeable.{OriginValue, stride_at, framed_at, takeable}

-- none comes before this time, and none before one that stands before it
abbrev pub ComeFrom : ℕ → List Stamped → Type 0
ComeFrom time [] = Unit {0}
ComeFrom time (item ∷ items) = (time ≤ item.stamp) × ComeFrom item.stamp items

-- The packets that a run may take of an input come in the order of their times.
abbrev pub PacketsComeInOrder : Type 0
PacketsComeInOrder =
    (schedule : ScheduleValue) (origin : OriginValue) (bytes : List ℕ) → 0 < origin.rate
    → ComeFrom 0 (takeable schedule origin (framed_at origin bytes))

-- There are as few of an input as have room in its bytes, where bytes may lack behind the last: at most 16,777,216 of an input of
-- no more bytes than its size allows.
abbrev pub PacketsAreFew : Type 0
PacketsAreFew =
    (schedule : ScheduleValue) (origin : OriginValue) (bytes : List ℕ)
    → stride_at origin * length (takeable schedule origin (framed_at origin bytes)) ≤ length bytes + (stride_at origin - 188)
