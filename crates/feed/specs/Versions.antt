-- What is published, and how it grows (profile).
use Rattle.std.specs.Prelude.{ℕ, List, [], ◌∷◌, ◌++◌, map}
use Rattle.std.specs.declared.snapshot.Snapshot.{Snapshot}
use Rattle.marks.specs.Marks.{MarkValue}
use Rattle.schedule.specs.Schedule.{ScheduleValue}
use Rattle.feed.specs.declared.append.Append.{Append}
use Rattle.feed.specs.declared.content.Content.{Content}
use Rattle.feed.specs.declared.version.VersionOf.{VersionOf}

-- a version: the schedule, the packets that were published, and their mark
abbrev pub Version : Type 0
Version = VersionOf (Snapshot ScheduleValue) MarkValue

abbrev pub content_of : Version → Content
content_of v = record { schedule = v.schedule.value; packets = v.packets.items; mark = v.mark }

-- with one packet more
abbrev pub content_after : Content → Append → Content
content_after c a = record { schedule = c.schedule; packets = c.packets ++ a.packet ∷ []; mark = a.mark }

-- the packets that were appended, in order
abbrev pub packets_in : List Append → List (List ℕ)
packets_in appends = map (λ (a : Append). a.packet) appends
