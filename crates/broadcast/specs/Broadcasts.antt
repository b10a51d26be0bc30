-- A station whose packets are published to readers, as contracts see it (profile).
use Rattle.std.specs.Prelude.{◌≡◌, ℕ, List, [], ◌++◌, length, drop, Bool, true, false}
use mathlib.Core.List.{IsPrefix}
use Rattle.mux.specs.History.{emitted}
use Rattle.mux.specs.Headline.{IsSound}
use Rattle.marks.specs.Marks.{FeedId, MarkValue}
use Rattle.station.specs.Stations.{StationValue, IsLawfulStation}

-- the station, which feed it publishes to, what was published there, and whether the feed is sealed
pub record BroadcastValue : Type 0 where
  pub station : StationValue
  pub feed : FeedId
  pub published : List (List ℕ)
  pub is_sealed : Bool

-- all packets that a station sent, one a slot, oldest first
abbrev pub emitted_by : StationValue → List (List ℕ)
emitted_by s = emitted s.history.run.schedule s.history.events

-- those that aren't published
abbrev pub behind_of : BroadcastValue → List (List ℕ)
behind_of b = drop (length b.published) (emitted_by b.station)

-- all packets that its station sent are there, in order: those that were published, and then those that are behind
abbrev pub LosesNothing : BroadcastValue → Type 0
LosesNothing b = emitted_by b.station ≡ b.published ++ behind_of b

-- the mark of all that was published
abbrev pub mark_of_published : BroadcastValue → MarkValue
mark_of_published b = record { feed = b.feed; packets = b.published; is_sealed = b.is_sealed }

-- a broadcast of this station and feed that published nothing
abbrev pub new_broadcast : StationValue → FeedId → BroadcastValue
new_broadcast s f = record { station = s; feed = f; published = []; is_sealed = false }

-- What was published before begins what is published now. To a sealed feed nothing more is published.
pub record PublishesOn (old new : BroadcastValue) : Type 0 where
  pub feed : new.feed ≡ old.feed
  pub is_sealed : new.is_sealed ≡ old.is_sealed
  pub begins : IsPrefix old.published new.published
  pub no_more : old.is_sealed ≡ true → new.published ≡ old.published

-- What each broadcast keeps: its station is sound and lawful, and what was published begins what the station sent.
pub record IsLawfulBroadcast (b : BroadcastValue) : Type 0 where
  pub sound : IsSound b.station.history
  pub lawful : IsLawfulStation b.station.history b.station.inputs
  pub published : IsPrefix b.published (emitted_by b.station)
