-- What the end that publishes keeps (profile).
use Rattle.std.specs.Prelude.{◌≡◌, List, [], ◌++◌, fold}
use Rattle.marks.specs.Marks.{FeedId, open_mark}
use Rattle.schedule.specs.Schedule.{ScheduleValue}
use Rattle.feed.specs.declared.append.Append.{Append}
use Rattle.feed.specs.declared.knowledge.Knowledge.{Knowledge}
use Rattle.feed.specs.Knowing.{informed, feed_known}
use Rattle.feed.specs.Versions.{Version, content_of, content_after, packets_in}

-- It knows its schedule and feed. What is published has the mark of its packets, and so it will once these were appended to it.
pub record IsMarked (k : Knowledge) (v : Version) (appends : List Append) : Type 0 where
  pub knows : k ≡ informed v.schedule.value (feed_known k)
  pub now : v.mark ≡ open_mark (feed_known k) v.packets.items
  pub then : (fold content_after (content_of v) appends).mark
      ≡ open_mark (feed_known k) (v.packets.items ++ packets_in appends)

-- It was told of this schedule and this feed, of which nothing was published or appended.
pub record IsNewEnd (p : ScheduleValue) (f : FeedId) (k : Knowledge) (v : Version) (appends : List Append) : Type 0 where
  pub told : k ≡ informed p f
  pub schedule : v.schedule.value ≡ p
  pub packets : v.packets.items ≡ []
  pub mark : v.mark ≡ open_mark f []
  pub nothing_pending : appends ≡ []
