-- What comes of a run, in one thread or in several (profile).
use Rattle.std.specs.Prelude.{◌≡◌, ◌⊎◌, ℕ, ◌<◌, ◌≤◌, List, [], ◌++◌, length, map, Option, Some, None, true, false}
use Rattle.std.specs.List.{slice_get}
use Rattle.std.specs.Io.KnownBytes.{Appends, Consumes, IsAtEnd}
use Rattle.tspkt.specs.declared.item.Item.{Item}
use Rattle.tspkt.specs.declared.stamped.Stamped.{Stamped}
use Rattle.request.specs.Request.{InputValue}
use Rattle.analyse.specs.Faults.{faults}
use Rattle.analyse.specs.FaultReport.{IsReportOf}
use Rattle.schedule.specs.Schedule.{ScheduleValue}
use Rattle.mux.specs.declared.event.Event.{Event}
use Rattle.mux.specs.History.{History, taken, is_closed, emitted}
use Rattle.mux.specs.Totals.{IsTotals, IsCounts}
use Rattle.mux.specs.Headline.{IsSound}
use Rattle.mux.specs.Faithful.{IsFinished}
use Rattle.reading.specs.Failures.{FailsOnce}
use Rattle.reading.specs.InputLimit.{limit_of_input}
use Rattle.reading.specs.Takeable.{framed_at, takeable, origin_of, CountsItems}
use Rattle.reading.specs.PacketReading.{BeginsTakeable, CountsTold}
use Rattle.reading.specs.declared.input_limit.InputLimit.{InputLimit}
use Rattle.reading.specs.declared.stop.Stop.{Stop}
use Rattle.reading.specs.declared.stop.Stop.TheVariants.{Gate, Memory, ReadFailed, TooMuch}
use Rattle.outlet.specs.Written.{SendsBeginning}
use Rattle.outlet.specs.Sending.{bytes_of}
use Rattle.outlet.specs.declared.run_fault.RunFault.{RunFault}
use Rattle.outlet.specs.declared.run_fault.RunFault.TheVariants as run_faults
use Rattle.outcome.specs.Taking.{AreBegun, TakesAsNeeded}
use Rattle.outcome.specs.Giving.{AreKnown, TakesWhatIsGiven}
use Rattle.outcome.specs.Ending.{ArePeaks}
use Rattle.outcome.specs.declared.summary.InputSummary.{InputSummary}
use Rattle.outcome.specs.declared.summary.Summary.{Summary}

-- The input ended by itself: it has no more bytes than it may have, all that can be taken of them was taken before it was
-- closed, and the report counts all of their framing.
pub record HasEnded (limit : ℕ) (schedule : ScheduleValue) (h : List Event) (i : ℕ) (input : InputValue) (all : List ℕ) (s : InputSummary) : Type 0 where
  pub within : length all ≤ limit
  pub taken_is : taken i h ≡ takeable schedule (origin_of i input) (framed_at (origin_of i input) all)
  pub counts : CountsItems schedule (origin_of i input) (framed_at (origin_of i input) all) s.report

-- The report counts a beginning of the framing of these bytes, and what can be taken of that beginning was taken, but for packets
-- on their way. Of a closed input none is.
pub record IsCounted (schedule : ScheduleValue) (h : List Event) (i : ℕ) (input : InputValue) (all : List ℕ) (s : InputSummary) : Type 0 where
  pub looked : List Item
  pub later : List Item
  pub framing : looked ++ later ≡ framed_at (origin_of i input) all
  pub counts : CountsItems schedule (origin_of i input) looked s.report
  pub on_their_way : List Stamped
  pub taken_is : takeable schedule (origin_of i input) looked ≡ taken i h ++ on_their_way
  pub closed : is_closed i h ≡ true → on_their_way ≡ []

-- What is said of an input whose source had these bytes to give at first, where they are known. It may have so many.
pub record IsInputSummary (limit : ℕ) (schedule : ScheduleValue) (h : List Event) (i : ℕ) (input : InputValue) (start : Option (List ℕ)) (s : InputSummary) : Type 0 where
  pub totals : IsTotals schedule i h s.totals
  -- an input that nothing stopped ended, and was closed; one that the run left before its end wasn't closed
  pub closed : s.report.stopped ≡ None → is_closed i h ≡ true
  pub ended : s.report.stopped ≡ None → (all : List ℕ) → start ≡ Some all → HasEnded limit schedule h i input all s
  -- whatever stopped it, its report is one of its bytes
  pub counted : (all : List ℕ) → start ≡ Some all → IsCounted schedule h i input all s
  pub left : s.report.stopped ≡ Some Gate → is_closed i h ≡ false
  -- no input was given up for want of memory
  pub unrefused : s.report.stopped ≡ Some Memory → ⊥
  pub too_much : s.report.stopped ≡ Some TooMuch → (all : List ℕ) → start ≡ Some all → limit < length all

-- Nothing but the end of the run stopped the inputs.
abbrev pub AreUnfailed : List InputSummary → Type 0
AreUnfailed inputs =
    (i : ℕ) (s : InputSummary) → slice_get inputs i ≡ Some s
    → (s.report.stopped ≡ None) ⊎ (s.report.stopped ≡ Some Gate)

-- what stopped each input, if anything
abbrev pub stops_of : List InputSummary → List (Option Stop)
stops_of inputs = map (λ s. s.report.stopped) inputs

-- What is said of a run is so. Each input may have so many bytes at its size.
pub record IsSummary (limit : InputLimit) (schedule : ScheduleValue) (h : List Event) (starts : List (Option (List ℕ))) (s : Summary) : Type 0 where
  pub length_is : length s.inputs.items ≡ length schedule.first.request.inputs
  pub inputs : (i : ℕ) (input : InputValue) (start : Option (List ℕ)) (x : InputSummary)
      → slice_get schedule.first.request.inputs i ≡ Some input → slice_get starts i ≡ Some start → slice_get s.inputs.items i ≡ Some x
      → IsInputSummary (limit_of_input limit input.size) schedule h i input start x
  pub streams : ArePeaks schedule h s.streams.items
  pub counts : IsCounts h s.counts
  pub reported : IsReportOf s.fault_report (faults schedule.first.request.rate schedule.first.request.watch (emitted schedule h))
  pub faults : s.faults ≡ length (faults schedule.first.request.rate schedule.first.request.watch (emitted schedule h))

-- The input's source was read on, from the bytes that it had to give at first to those that are left. What was taken of the
-- input begins what can be taken of the bytes between, and the source of an input that nothing stopped is at its end. The input
-- is told as too long exactly where more bytes than it may have were read.
pub record IsReadOn (limit : ℕ) (schedule : ScheduleValue) (h : List Event) (i : ℕ) (input : InputValue) (start left : Option (List ℕ)) (s : InputSummary) : Type 0 where
  pub bytes : List ℕ
  pub read : Consumes start left bytes
  pub begins : BeginsTakeable schedule (origin_of i input) bytes (taken i h)
  pub ended : s.report.stopped ≡ None → IsAtEnd left
  pub too_much : s.report.stopped ≡ Some TooMuch → limit < length bytes
  pub within : (s.report.stopped ≡ Some TooMuch → ⊥) → length bytes ≤ limit
  -- at a failed read the report counts what was told of the bytes before it
  pub told : s.report.stopped ≡ Some ReadFailed → CountsTold schedule (origin_of i input) bytes (IsAtEnd left) s.report
  -- of an input that was closed at a failed read all that can be taken of the bytes before it was taken
  pub failed : s.report.stopped ≡ Some ReadFailed → is_closed i h ≡ true → taken i h ≡ takeable schedule (origin_of i input) (framed_at (origin_of i input) bytes)

-- the same of all inputs, in their order, each of which may have so many bytes at its size
abbrev pub AreReadOn : InputLimit → ScheduleValue → List Event → List (Option (List ℕ)) → List (Option (List ℕ)) → List InputSummary → Type 0
AreReadOn limit schedule h starts lefts inputs =
    (i : ℕ) (input : InputValue) (start left : Option (List ℕ)) (s : InputSummary)
    → slice_get schedule.first.request.inputs i ≡ Some input → slice_get starts i ≡ Some start → slice_get lefts i ≡ Some left
    → slice_get inputs i ≡ Some s → IsReadOn (limit_of_input limit input.size) schedule h i input start left s

-- What a run of these sources makes, each of at most so many bytes at its input's size, where it ends by itself: a history. It
-- leaves them with these bytes to give.
pub record HasRun (h : History) (limit : InputLimit) (starts lefts : List (Option (List ℕ))) (before after : Option (List ℕ)) (s : Summary) : Type 0 where
  -- it is lawful, and sound
  pub sound : IsSound h
  -- it has all slots of the run, or with fewer nothing is left to send
  pub finished : IsFinished h.run.schedule h.run.limit h.events
  -- its packets were written, and nothing else
  pub written : Appends before after (bytes_of (emitted h.run.schedule h.events))
  -- what was taken of each input begins what can be taken of its bytes
  pub begun : AreBegun h.run.schedule h.events starts
  -- nothing was taken but where the multiplex waited for it
  pub needed : TakesAsNeeded h.run h.events
  -- it takes what the inputs give, each input's packets in their order
  pub faithful : AreKnown starts → TakesWhatIsGiven h.run.schedule starts lefts (stops_of s.inputs.items) h.events
  pub summary : IsSummary limit h.run.schedule h.events starts s
  -- the sources come back in their order, read on
  pub read : AreReadOn limit h.run.schedule h.events starts lefts s.inputs.items

-- A failed read is told exactly where the source failed once more.
abbrev pub IsFailureTold : {R : Type 0} → (R → ℕ) → R → R → Option Stop → Type 0
IsFailureTold failures old new stopped =
    (stopped ≡ Some ReadFailed → FailsOnce (failures old) (failures new))
    × ((stopped ≡ Some ReadFailed → ⊥) → failures new ≡ failures old)

-- A failed read is told of an input exactly where its source failed in the run.
abbrev pub FailuresAreTold : {R : Type 0} → (R → ℕ) → List R → List R → List InputSummary → Type 0
FailuresAreTold {R} failures before after inputs =
    (i : ℕ) (s : InputSummary) (old new : R)
    → slice_get inputs i ≡ Some s → slice_get before i ≡ Some old → slice_get after i ≡ Some new
    → IsFailureTold failures old new s.report.stopped

-- An input of a run that failed: its reader was read on and left so, and this stopped it, if anything. What was taken of
-- the input begins what can be taken of the bytes that were read. A failed read is told exactly where the reader failed once
-- more, and the input is told as too long exactly where more bytes than it may have were read. Where a gate stopped it
-- it is open.
pub record IsLeft {R : Type 0} (remaining : R → Option (List ℕ)) (failures : R → ℕ) (limit : ℕ) (schedule : ScheduleValue) (h : List Event) (i : ℕ) (input : InputValue) (old : R) (left : R × Option Stop) : Type 0 where
  pub bytes : List ℕ
  pub read : Consumes (remaining old) (remaining left.0) bytes
  pub begins : BeginsTakeable schedule (origin_of i input) bytes (taken i h)
  pub told : IsFailureTold failures old left.0 left.1
  pub too_much : left.1 ≡ Some TooMuch → limit < length bytes
  pub within : (left.1 ≡ Some TooMuch → ⊥) → length bytes ≤ limit
  pub unclosed : left.1 ≡ Some Gate → is_closed i h ≡ false

-- What a run of these readers makes, each of at most so many bytes at its input's size, where it doesn't end by itself but with
-- this fault: a beginning of the packets of a sound history was written. `Takes` says what this history takes of the inputs. `lefts`
-- are readers as a run may leave them, each with what stopped its input, if anything: they don't come back.
pub record HasBroken {R : Type 0} (Takes : ScheduleValue → List (Option (List ℕ)) → List (Option (List ℕ)) → List (Option Stop) → List Event → Type 0) (remaining : R → Option (List ℕ)) (failures : R → ℕ) (h : History) (limit : InputLimit) (readers : List R) (before after : Option (List ℕ)) (fault : RunFault) : Type 0 where
  pub sound : IsSound h
  pub begun : AreBegun h.run.schedule h.events (map remaining readers)
  pub needed : TakesAsNeeded h.run h.events
  pub written : SendsBeginning before after (bytes_of (emitted h.run.schedule h.events))
  pub lefts : List (R × Option Stop)
  pub count : length lefts ≡ length readers
  pub left : (i : ℕ) (input : InputValue) (old : R) (left : R × Option Stop)
      → slice_get h.run.schedule.first.request.inputs i ≡ Some input → slice_get readers i ≡ Some old → slice_get lefts i ≡ Some left
      → IsLeft remaining failures (limit_of_input limit input.size) h.run.schedule h.events i input old left
  -- it takes what the inputs give, each input's packets in their order
  pub faithful : AreKnown (map remaining readers)
      → Takes h.run.schedule (map remaining readers) (map (λ left. remaining left.0) lefts) (map (λ left. left.1) lefts) h.events
  -- an input's want of memory is told as that
  pub refused : (i : ℕ) (left : R × Option Stop) → slice_get lefts i ≡ Some left → left.1 ≡ Some Memory → fault ≡ run_faults.Memory
