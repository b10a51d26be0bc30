-- What an end of a feed knows of it (profile).
use Rattle.std.specs.Prelude.{◌≡◌, ◌⊎◌, Some, None, true, false}
use Rattle.marks.specs.Marks.{FeedId}
use Rattle.schedule.specs.Schedule.{ScheduleValue}
use Rattle.feed.specs.declared.knowledge.Knowledge.{Knowledge}
use Rattle.feed.specs.Versions.{Version}

-- one that wasn't told anything
abbrev pub newcomer : Knowledge
newcomer = record { is_told = false; schedule = None; number = 0; log_name = 0; cells_name = 0 }

-- one that was told of this schedule and this feed
abbrev pub informed : ScheduleValue → FeedId → Knowledge
informed p f = record { is_told = true; schedule = Some p; number = f.number; log_name = f.log_name; cells_name = f.cells_name }

-- the feed that one was told of
abbrev pub feed_known : Knowledge → FeedId
feed_known k = record { number = k.number; log_name = k.log_name; cells_name = k.cells_name }

-- nothing, or the schedule and the feed of this version
abbrev pub Knows : Version → Knowledge → Type 0
Knows v k = (k ≡ newcomer) ⊎ (k ≡ informed v.schedule.value v.mark.feed)
