-- What an input has read, and which packets it has given (profile).
use Rattle.std.specs.Prelude.{◌≡◌, ℕ, List, [], ◌++◌, Option, Some, None, IsSome}
use Rattle.std.specs.Option.{option_to_list}
use Rattle.std.specs.Io.KnownBytes.{Consumes, IsAtEnd}
use Rattle.tspkt.specs.Framed.{packets_of}
use Rattle.tspkt.specs.declared.item.Item.{Item}
use Rattle.tspkt.specs.declared.stamped.Stamped.{Stamped}
use Rattle.schedule.specs.Schedule.{ScheduleValue}
use Rattle.reading.specs.Failures.{FailsOnce}
use Rattle.reading.specs.Takeable.{OriginValue, stride_at, framed_at, takeable, CountsItems, EndsAtTaken}
use Rattle.reading.specs.StreamReading.{HasPassed, BeginsFramed, AreAllDecided}
use Rattle.reading.specs.declared.report.Report.{Report}
use Rattle.reading.specs.declared.stop.Stop.TheVariants.{Gate, ReadFailed}
use Rattle.reading.specs.declared.stream_reader.StreamReader.{StreamReader}
use Rattle.reading.specs.Holding.{PacketReader}

-- These packets begin what can be taken of the bytes, whatever follows them.
abbrev pub BeginsTakeable : ScheduleValue → OriginValue → List ℕ → List Stamped → Type 0
BeginsTakeable schedule origin bytes given =
    (more : List ℕ) → (later : List Stamped) × (given ++ later ≡ takeable schedule origin (framed_at origin (bytes ++ more)))

-- These of the items were looked at: those of their packets that can be taken were given, but for one that is held, and
-- the report counts them. Behind one that is held none was looked at, and none is left of what was told once the input was
-- stopped.
pub record HasLooked {R : Type 0} (remaining : R → Option (List ℕ)) (schedule : ScheduleValue) (origin : OriginValue) (stream : StreamReader R) (held : Option Stamped) (report : Report) (bytes : List ℕ) (given : List Stamped) (looked : List Item) : Type 0 where
  pub passed : HasPassed remaining (stride_at origin) stream bytes report.stopped looked
  pub given_is : takeable schedule origin looked ≡ given ++ option_to_list held
  pub counts : CountsItems schedule origin looked report
  pub ends : IsSome held → EndsAtTaken schedule origin looked
  pub over : IsSome report.stopped → stream.items.ahead ≡ []

-- The input has read these bytes of its source and has given these packets, of which none is held.
abbrev pub HasRead : {R : Type 0} → (R → Option (List ℕ)) → ScheduleValue → PacketReader R → List ℕ → List Stamped → Type 0
HasRead remaining schedule x bytes given =
    (looked : List Item) × HasLooked remaining schedule x.origin x.stream x.held x.report bytes given looked

-- Some bytes more were read of the source, and nothing more was given.
abbrev pub ReadsOn : {R : Type 0} → (R → Option (List ℕ)) → ScheduleValue → PacketReader R → PacketReader R → Type 0
ReadsOn remaining schedule old new =
    (bytes : List ℕ) (given : List Stamped) → HasRead remaining schedule old bytes given
    → (more : List ℕ) × Consumes (remaining old.stream.source) (remaining new.stream.source) more × HasRead remaining schedule new (bytes ++ more) given

-- The input's source failed so often before it was read. A failed read is told exactly where it failed once more, and an
-- input that is still read met none.
pub record TellsFailures {R : Type 0} (failures : R → ℕ) (before : ℕ) (x : PacketReader R) : Type 0 where
  pub unfailed : IsSome x.stream.items.framer → failures x.stream.source ≡ before
  pub told : x.report.stopped ≡ Some ReadFailed → FailsOnce before (failures x.stream.source)
  pub untold : (x.report.stopped ≡ Some ReadFailed → ⊥) → failures x.stream.source ≡ before

-- The input was read on: failures are told as before, what stopped it before still does, no run's end stopped it now, one that
-- was read no further isn't either now, and it is of the same origin and limit.
pub record GoesOn {R : Type 0} (failures : R → ℕ) (old new : PacketReader R) : Type 0 where
  pub failures_told : (before : ℕ) → TellsFailures failures before old → TellsFailures failures before new
  pub going : new.report.stopped ≡ None → old.report.stopped ≡ None
  pub unleft : new.report.stopped ≡ Some Gate → old.report.stopped ≡ Some Gate
  pub reading : IsSome new.stream.items.framer → IsSome old.stream.items.framer
  pub origin : new.origin ≡ old.origin
  pub limit : new.stream.items.limit ≡ old.stream.items.limit

-- It is read on: no packet is held, all items that were told were looked at, and more may be told.
pub record WantsMore {R : Type 0} (x : PacketReader R) : Type 0 where
  pub held : x.held ≡ None
  pub ahead : x.stream.items.ahead ≡ []
  pub framer : IsSome x.stream.items.framer

-- nothing is left to give
pub record IsSpent {R : Type 0} (x : PacketReader R) : Type 0 where
  pub framer : x.stream.items.framer ≡ None
  pub ahead : x.stream.items.ahead ≡ []
  pub held : x.held ≡ None

-- An input that ended by itself: all packets that can be taken were given, and the report counts all items.
pub record IsWhole {R : Type 0} (remaining : R → Option (List ℕ)) (schedule : ScheduleValue) (x : PacketReader R) (bytes : List ℕ) (given : List Stamped) : Type 0 where
  pub given_is : given ≡ takeable schedule x.origin (framed_at x.origin bytes)
  pub counts : CountsItems schedule x.origin (framed_at x.origin bytes) x.report
  pub at_end : IsAtEnd (remaining x.stream.source)

-- The report counts what was told of these bytes: items that begin their framing, whatever follows them, with all of their
-- packets and all other items that they decide.
pub record CountsTold (schedule : ScheduleValue) (origin : OriginValue) (bytes : List ℕ) (at_end : Type 0) (report : Report) : Type 0 where
  pub told : List Item
  pub begun : BeginsFramed (stride_at origin) bytes at_end told
  pub packets : packets_of told ≡ packets_of (framed_at origin bytes)
  pub all : AreAllDecided (stride_at origin) bytes told
  pub counts : CountsItems schedule origin told report
