-- What contracts see of the writer of a feed (profile).
use Rattle.std.specs.Prelude.{◌≡◌, ℕ, List, [], ◌∷◌, ◌++◌, Bool, true, false, Option, Some, None}
use Rattle.marks.specs.Marks.{FeedId, MarkValue}
use Rattle.schedule.specs.Schedule.{ScheduleValue}

-- which feed, its schedule, what was published, what was appended since, and whether it is sealed
pub record FeedWriterValue : Type 0 where
  pub feed : FeedId
  pub schedule : ScheduleValue
  pub published : List (List ℕ)
  pub behind : List (List ℕ)
  pub is_sealed : Bool

-- the writer of a new feed of this schedule
abbrev pub new_writer : FeedId → ScheduleValue → FeedWriterValue
new_writer f p = record { feed = f; schedule = p; published = []; behind = []; is_sealed = false }

-- the mark of all that was published
abbrev pub mark_of_published : FeedWriterValue → MarkValue
mark_of_published w = record { feed = w.feed; packets = w.published; is_sealed = w.is_sealed }

abbrev pub list_of : Option (List ℕ) → List (List ℕ)
list_of None = []
list_of (Some p) = p ∷ []

-- All that is in the sequence of this feed was published, is pending, or is held, in this order. Of a sealed one all was published.
pub record KeepsOrder (all : MarkValue) (f : FeedId) (published pending : List (List ℕ)) (held : Option (List ℕ)) : Type 0 where
  pub feed : f ≡ all.feed
  pub packets : all.packets ≡ published ++ (pending ++ list_of held)
  pub nothing_behind : all.is_sealed ≡ true → pending ++ list_of held ≡ []
