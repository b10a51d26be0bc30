-- What comes of a run in one thread (profile).
use Rattle.std.specs.Prelude.{◌≡◌, ℕ, List, ◌++◌, Option, Some, None, true}
use Rattle.std.specs.List.{slice_get}
use Rattle.std.specs.Option.{option_to_list}
use Rattle.tspkt.specs.declared.item.Item.{Item}
use Rattle.tspkt.specs.declared.stamped.Stamped.{Stamped}
use Rattle.request.specs.Request.{InputValue}
use Rattle.schedule.specs.Schedule.{ScheduleValue}
use Rattle.mux.specs.declared.event.Event.{Event}
use Rattle.mux.specs.History.{History, taken, is_closed}
use Rattle.reading.specs.Takeable.{framed_at, takeable, origin_of, CountsItems, EndsAtTaken}
use Rattle.reading.specs.declared.input_limit.InputLimit.{InputLimit}
use Rattle.reading.specs.declared.stop.Stop.{Stop}
use Rattle.reading.specs.declared.stop.Stop.TheVariants.{Gate}
use Rattle.outlet.specs.declared.run_fault.RunFault.{RunFault}
use Rattle.outcome.specs.Giving.{TakesWhatIsGiven}
use Rattle.outcome.specs.Outcome as outcome
use Rattle.outcome.specs.declared.summary.InputSummary.{InputSummary}
use Rattle.outcome.specs.declared.summary.Summary.{Summary}
use Rattle.serial.specs.Running.{IsHalted}

-- The report counts a beginning of the framing of these bytes, and what can be taken of that beginning was taken, but for at
-- most one packet, which is held. A closed input holds none. Where the end of the run stopped the input, the last item that is
-- counted is the packet that was taken last, or the one that is held.
pub record IsCountedInTurn (schedule : ScheduleValue) (h : List Event) (i : ℕ) (input : InputValue) (all : List ℕ) (s : InputSummary) : Type 0 where
  pub looked : List Item
  pub later : List Item
  pub framing : looked ++ later ≡ framed_at (origin_of i input) all
  pub counts : CountsItems schedule (origin_of i input) looked s.report
  pub held : Option Stamped
  pub taken_is : takeable schedule (origin_of i input) looked ≡ taken i h ++ option_to_list held
  pub closed : is_closed i h ≡ true → held ≡ None
  pub left : s.report.stopped ≡ Some Gate → EndsAtTaken schedule (origin_of i input) looked

-- the same of all inputs, where the bytes of their sources are known
abbrev pub AreCountedInTurn : ScheduleValue → List Event → List (Option (List ℕ)) → List InputSummary → Type 0
AreCountedInTurn schedule h starts inputs =
    (i : ℕ) (input : InputValue) (all : List ℕ) (s : InputSummary)
    → slice_get schedule.first.request.inputs i ≡ Some input → slice_get starts i ≡ Some (Some all) → slice_get inputs i ≡ Some s
    → IsCountedInTurn schedule h i input all s

-- What a run in one thread makes of these sources, each of at most so many bytes at its input's size, where it ends by itself. It
-- leaves them with these bytes to give.
pub record HasRun (h : History) (limit : InputLimit) (starts lefts : List (Option (List ℕ))) (before after : Option (List ℕ)) (s : Summary) : Type 0 where
  pub run : outcome.HasRun h limit starts lefts before after s
  pub in_turn : AreCountedInTurn h.run.schedule h.events starts s.inputs.items

-- What it makes of these readers where it doesn't end by itself but with this fault.
pub record HasBegun {R : Type 0} (remaining : R → Option (List ℕ)) (failures : R → ℕ) (h : History) (limit : InputLimit) (readers : List R) (before after : Option (List ℕ)) (fault : RunFault) : Type 0 where
  pub run : outcome.HasBroken TakesWhatIsGiven remaining failures h limit readers before after fault
  pub halted : (i : ℕ) (left : R × Option Stop) → slice_get run.lefts i ≡ Some left → IsHalted h.run.schedule h.events i left.1
