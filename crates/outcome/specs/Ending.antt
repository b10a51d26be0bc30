-- What is said of a run's inputs and streams at its end (profile).
use Rattle.std.specs.Prelude.{◌≡◌, ℕ, List, length, map, Bool, Some, None, IsSome, true, false}
use Rattle.std.specs.List.{slice_get}
use Rattle.schedule.specs.Schedule.{ScheduleValue}
use Rattle.schedule.specs.Streams.{all_streams}
use Rattle.mux.specs.declared.event.Event.{Event}
use Rattle.request.specs.declared.stream.Stream.{Stream}
use Rattle.mux.specs.Totals.{IsTotals, IsCounts}
use Rattle.mux.specs.declared.peak.Peak.{Peak}
use Rattle.mux.specs.Peaks.{IsPeak}
use Rattle.outlet.specs.declared.slot_writer.SlotWriter.{SlotWriter}
use Rattle.reading.specs.declared.report.Report.{Report}
use Rattle.reading.specs.declared.stop.Stop.TheVariants.{Gate, Memory}
use Rattle.outcome.specs.declared.ended.Ended.{Ended}
use Rattle.outcome.specs.declared.summary.InputSummary.{InputSummary}
use Rattle.outcome.specs.declared.summary.Summary.{Summary}

-- the input's report, where the run that ends leaves an input that wasn't closed and that nothing stopped
pub record IsLast (is_closed : Bool) (report last : Report) : Type 0 where
  pub left : is_closed ≡ false → report.stopped ≡ None → last ≡ record report { stopped = Some Gate }
  pub closed : is_closed ≡ true → last ≡ report
  pub stopped : IsSome report.stopped → last ≡ report

-- no input was stopped for want of memory
abbrev pub HadMemory : {T : Type 0} → List (Ended T) → Type 0
HadMemory {T} ended = (i : ℕ) (e : Ended T) → slice_get ended i ≡ Some e → e.report.stopped ≡ Some Memory → ⊥

-- each input's report and totals, and what was lent to read it
pub record AreReported {T : Type 0} (schedule : ScheduleValue) (h : List Event) (ended : List (Ended T)) (summaries : List InputSummary) (lent : List T) : Type 0 where
  pub length_is : length summaries ≡ length ended
  pub lent_is : lent ≡ map (λ e. e.lent) ended
  pub totals : (i : ℕ) (s : InputSummary) → slice_get summaries i ≡ Some s → IsTotals schedule i h s.totals
  pub reports : (i : ℕ) (e : Ended T) (s : InputSummary)
      → slice_get ended i ≡ Some e → slice_get summaries i ≡ Some s → IsLast e.is_closed e.report s.report

-- each stream's largest delay and fullest queue, in the schedule's order
pub record ArePeaks (schedule : ScheduleValue) (h : List Event) (peaks : List Peak) : Type 0 where
  pub length_is : length peaks ≡ length (all_streams schedule)
  pub each : (k : ℕ) (st : Stream) (x : Peak)
      → slice_get (all_streams schedule) k ≡ Some st → slice_get peaks k ≡ Some x → IsPeak schedule h st x

-- what is told of a run that left this of its inputs, and whose packets went out by this
pub record IsTold {T : Type 0} (schedule : ScheduleValue) (h : List Event) (ended : List (Ended T)) (output : SlotWriter) (s : Summary) (lent : List T) : Type 0 where
  pub inputs : AreReported schedule h ended s.inputs.items lent
  pub streams : ArePeaks schedule h s.streams.items
  pub counts : IsCounts h s.counts
  pub faults : s.faults ≡ output.faults
  pub report : s.fault_report ≡ output.report
