-- What contracts see of a reader of a feed (profile).
use Rattle.std.specs.Prelude.{ℕ, List, []}
use Rattle.marks.specs.Marks.{FeedId, MarkValue, open_mark}
use Rattle.schedule.specs.Schedule.{ScheduleValue}

-- the schedule of its feed, all that it knows of the feed, and all that it has read, in order
pub record FeedReaderValue : Type 0 where
  pub schedule : ScheduleValue
  pub known : MarkValue
  pub read : List (List ℕ)

-- a reader of this schedule and feed that has read nothing and learnt no mark
abbrev pub new_reader : ScheduleValue → FeedId → FeedReaderValue
new_reader p f = record { schedule = p; known = open_mark f []; read = [] }
