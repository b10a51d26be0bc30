-- How a broadcast keeps what isn't published yet (profile).
use Rattle.std.specs.Prelude.{◌≡◌, ℕ, List, ◌++◌, true, false}
use mathlib.Core.List.{IsPrefix}
use Rattle.feed.specs.Writers.{FeedWriterValue}
use Rattle.station.specs.Stations.{StationValue}
use Rattle.broadcast.specs.Broadcasts.{emitted_by}

-- The feed is of the station's schedule, and what was published begins what the station sent. While more may be published, the rest of it
-- is behind in the feed, and then what waits for memory to be appended.
pub record KeepsFeed (s : StationValue) (w : FeedWriterValue) (waiting : List (List ℕ)) : Type 0 where
  pub schedule : s.history.run.schedule ≡ w.schedule
  pub begins : IsPrefix w.published (emitted_by s)
  pub rest : w.is_sealed ≡ false → emitted_by s ≡ w.published ++ (w.behind ++ waiting)

-- The same feed: what was published before begins what is published now, and to a sealed feed nothing more is.
pub record PublishesInto (old new : FeedWriterValue) : Type 0 where
  pub feed : new.feed ≡ old.feed
  pub schedule : new.schedule ≡ old.schedule
  pub is_sealed : new.is_sealed ≡ old.is_sealed
  pub begins : IsPrefix old.published new.published
  pub no_more : old.is_sealed ≡ true → new.published ≡ old.published
