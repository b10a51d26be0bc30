-- What a recorder wrote of what its reader read (profile).
use Rattle.std.specs.Prelude.{◌≡◌, ◌++◌, ℕ, List, Bool, true, Option, MatchBool}
use mathlib.Core.List.{IsPrefix}
use Rattle.std.specs.Io.KnownBytes.{Appends}
use Rattle.emission.specs.Spans.{IsEmissionOf}
use Rattle.schedule.specs.Schedule.{ScheduleValue}
use Rattle.marks.specs.Marks.{MarkValue, Begins}
use Rattle.feed.specs.Readers.{FeedReaderValue}
use Rattle.outlet.specs.Sending.{bytes_of}
use Rattle.outlet.specs.Written.{SendsBeginning}

-- the reader, the sink as it was given and as it is, and whether a write failed
pub record RecorderValue (W : Type 0) : Type 0 where
  pub reader : FeedReaderValue
  pub given : W
  pub sink : W
  pub has_failed : Bool

-- Of what a sink held and of what it holds, where these are known: the packets were written to it, all of them, or a beginning of
-- their bytes where a write failed.
abbrev pub HasWritten : Option (List ℕ) → Option (List ℕ) → Bool → List (List ℕ) → Type 0
HasWritten given now has_failed packets = MatchBool has_failed (SendsBeginning given now (bytes_of packets)) (Appends given now (bytes_of packets))

-- A reader read on: it keeps its schedule, what it knew begins what it knows, and what it had read begins what it has read, which is an
-- emission of the schedule.
pub record ReadsOn (old new : FeedReaderValue) : Type 0 where
  pub schedule : new.schedule ≡ old.schedule
  pub known : Begins old.known new.known
  pub read : IsPrefix old.read new.read
  pub lawful : IsEmissionOf new.schedule new.read

-- What was read behind a mark: the packets of the mark are among it, and are all of it where the mark is sealed.
pub record HasMarked (mark : MarkValue) (read : List (List ℕ)) : Type 0 where
  pub begins : IsPrefix mark.packets read
  pub whole : mark.is_sealed ≡ true → read ≡ mark.packets

-- What a finished recorder leaves in its sink: a reader of this schedule read on, and of the bytes of what it has read, a beginning of
-- these was written.
pub record EndsWithin (schedule : ScheduleValue) (before : List (List ℕ)) (given now : Option (List ℕ)) : Type 0 where
  pub read : List (List ℕ)
  pub begins : IsPrefix before read
  pub lawful : IsEmissionOf schedule read
  pub written : SendsBeginning given now (bytes_of read)

-- The same, where all that was read was written, and the mark is among it.
pub record EndsWhole (schedule : ScheduleValue) (before : List (List ℕ)) (mark : MarkValue) (given now : Option (List ℕ)) : Type 0 where
  pub read : List (List ℕ)
  pub begins : IsPrefix before read
  pub lawful : IsEmissionOf schedule read
  pub marked : HasMarked mark read
  pub written : Appends given now (bytes_of read)
