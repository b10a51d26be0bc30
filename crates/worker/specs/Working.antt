-- What a worker has done at its end (profile).
use Rattle.std.specs.Prelude.{◌≡◌, ℕ, ◌<◌, ◌≤◌, List, ◌++◌, length, Bool, true, Option, Some, None}
use Rattle.std.specs.Option.{option_to_list}
use Rattle.std.specs.Io.KnownBytes.{Consumes, IsAtEnd}
use Rattle.tspkt.specs.declared.item.Item.{Item}
use Rattle.tspkt.specs.declared.stamped.Stamped.{Stamped}
use Rattle.schedule.specs.Schedule.{ScheduleValue}
use Rattle.reading.specs.Takeable.{OriginValue, stride_at, framed_at, takeable, CountsItems}
use Rattle.reading.specs.PacketReading.{BeginsTakeable, CountsTold}
use Rattle.reading.specs.StreamReading.{BeginsFramed}
use Rattle.reading.specs.declared.report.Report.{Report}
use Rattle.reading.specs.declared.stop.Stop.TheVariants.{ReadFailed, TooMuch, Memory}
use Rattle.port.specs.Rings.{RingId, FinishedValue}

-- The input ended by itself: all that can be taken of its bytes was sent, and the report counts all of their framing.
pub record IsSentWhole (schedule : ScheduleValue) (origin : OriginValue) (bytes : List ℕ) (left : Option (List ℕ)) (report : Report) (sent : List Stamped) : Type 0 where
  pub sent_is : sent ≡ takeable schedule origin (framed_at origin bytes)
  pub counts : CountsItems schedule origin (framed_at origin bytes) report
  pub at_end : IsAtEnd left

-- The report counts a beginning of the framing, of which all was sent that can be taken, but for at most one packet: none where
-- the end mark was sent, and there was memory to read with.
pub record IsCounted (schedule : ScheduleValue) (origin : OriginValue) (bytes : List ℕ) (left : Option (List ℕ)) (report : Report) (is_ended : Bool) (sent : List Stamped) : Type 0 where
  pub looked : List Item
  pub framing : BeginsFramed (stride_at origin) bytes (IsAtEnd left) looked
  pub counts : CountsItems schedule origin looked report
  pub held : Option Stamped
  pub sent_is : takeable schedule origin looked ≡ sent ++ option_to_list held
  pub over : is_ended ≡ true → (report.stopped ≡ Some Memory → ⊥) → held ≡ None

-- Of a source that had these bytes to give at first and has those left, and may have so many, the worker sent these packets, and
-- then the end mark or not.
pub record HasSentOf (limit : ℕ) (schedule : ScheduleValue) (origin : OriginValue) (start left : Option (List ℕ)) (report : Report) (is_ended : Bool) (sent : List Stamped) : Type 0 where
  pub bytes : List ℕ
  pub read : Consumes start left bytes
  -- they begin what can be taken of the bytes that were read, whatever follows these
  pub begins : BeginsTakeable schedule origin bytes sent
  -- and are all of it where nothing stopped the worker
  pub whole : report.stopped ≡ None → IsSentWhole schedule origin bytes left report sent
  -- at a failed read they are all of it too
  pub failed : report.stopped ≡ Some ReadFailed → sent ≡ takeable schedule origin (framed_at origin bytes)
  -- and the report counts what was told of the bytes before it
  pub told : report.stopped ≡ Some ReadFailed → CountsTold schedule origin bytes (IsAtEnd left) report
  -- it is told as too long exactly where more bytes than it may have were read
  pub too_much : report.stopped ≡ Some TooMuch → limit < length bytes
  pub within : (report.stopped ≡ Some TooMuch → ⊥) → length bytes ≤ limit
  pub counted : IsCounted schedule origin bytes left report is_ended sent

-- What its port sent is what it read.
abbrev pub HasWorked : ℕ → ScheduleValue → OriginValue → Option (List ℕ) → Option (List ℕ) → RingId → Report → FinishedValue → Type 0
HasWorked limit schedule origin start left ring report finished =
    (sent : List Stamped) × HasSentOf limit schedule origin start left report finished.is_ended sent
    × (finished.port ≡ record { ring = ring; sent = sent })
