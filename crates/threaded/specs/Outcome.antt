-- What comes of a run in threads (profile).
use Rattle.std.specs.Prelude.{◌≡◌, ◌⊎◌, ℕ, List, Option, Some}
use Rattle.std.specs.List.{slice_get}
use Rattle.schedule.specs.Schedule.{ScheduleValue}
use Rattle.mux.specs.History.{History}
use Rattle.mux.specs.Headline.{IsSound}
use Rattle.reading.specs.declared.input_limit.InputLimit.{InputLimit}
use Rattle.reading.specs.declared.stop.Stop.{Stop}
use Rattle.reading.specs.declared.stop.Stop.TheVariants.{Memory}
use Rattle.outlet.specs.declared.run_fault.RunFault.{RunFault}
use Rattle.outlet.specs.declared.run_fault.RunFault.TheVariants as run_faults
use Rattle.outlet.specs.declared.slot_writer.SlotWriter.{SlotWriter}
use Rattle.outcome.specs.Giving.{TakesWhatCame}
use Rattle.outcome.specs.Ending.{HadMemory, IsTold}
use Rattle.outcome.specs.Outcome.{HasBroken}
use Rattle.outcome.specs.declared.ended.Ended.{Ended}
use Rattle.outcome.specs.declared.summary.Summary.{Summary}
use Rattle.port.specs.Rings.{PortValue}
use Rattle.station.specs.Stations.{StationValue, IsLawfulStation}
use Rattle.workers.specs.Crews.{HaveWorked, WantedMemory}
use Rattle.handing.specs.Driving.{IsDriven, BreaksOff}

-- What a run in threads makes of these readers, each of at most so many bytes at its input's size, where it doesn't end by itself but
-- with this fault. So many writes had failed before the run, and so many after it.
pub record HasBegun {R : Type 0} (remaining : R → Option (List ℕ)) (failures : R → ℕ) (h : History) (limit : InputLimit) (readers : List R) (before after : Option (List ℕ)) (failed_before failed_after : ℕ) (fault : RunFault) : Type 0 where
  -- nothing ties the labels in it to the workers of the run
  pub run : HasBroken TakesWhatCame remaining failures h limit readers before after fault
  -- where a write failed memory is told only where a worker wanted it
  pub wanted : fault ≡ run_faults.Memory → (failed_after ≡ failed_before)
      ⊎ ((i : ℕ) × (left : R × Option Stop) × (slice_get run.lefts i ≡ Some left) × (left.1 ≡ Some Memory))

-- An opened run went on to its end: its inputs had their workers, what it sent went out, and this is told of it.
pub record RunsThrough {R G : Type 0} (remaining : R → Option (List ℕ)) (failures : R → ℕ) (limit : InputLimit) (schedule : ScheduleValue) (opened : StationValue) (seats : List ((R × G) × PortValue)) (output : SlotWriter) (before after : Option (List ℕ)) (s : Summary) (lent : List (R × G)) : Type 0 where
  pub station : StationValue
  pub left : SlotWriter
  pub ended : List (Ended (R × G))
  pub worked : HaveWorked remaining failures limit schedule station seats ended
  pub had_memory : HadMemory ended
  pub driven : IsDriven opened station output left before after
  pub sound : IsSound station.history
  pub lawful : IsLawfulStation station.history station.inputs
  pub told : IsTold station.history.run.schedule station.history.events ended left s lent

-- It failed with this fault: a beginning of what it sent went out. Its inputs had their workers, or nothing was taken of them. So
-- many writes had failed before, and so many after it.
pub record IsCutShort {R G : Type 0} (remaining : R → Option (List ℕ)) (failures : R → ℕ) (limit : InputLimit) (schedule : ScheduleValue) (opened : StationValue) (seats : List ((R × G) × PortValue)) (output : SlotWriter) (before after : Option (List ℕ)) (failed_before failed_after : ℕ) (fault : RunFault) : Type 0 where
  pub station : StationValue
  pub stopped : ((ended : List (Ended (R × G))) × HaveWorked remaining failures limit schedule station seats ended) ⊎ (station ≡ opened)
  -- of such workers: a failed write is told where none wanted memory, and want of memory at a failed write where one did
  pub unwanted : fault ≡ run_faults.Write → (ended : List (Ended (R × G))) × HaveWorked remaining failures limit schedule station seats ended × HadMemory ended
  pub wanted : fault ≡ run_faults.Memory → (failed_after ≡ failed_before)
      ⊎ ((ended : List (Ended (R × G))) × HaveWorked remaining failures limit schedule station seats ended × WantedMemory ended)
  pub broken : BreaksOff opened station output before after
  pub sound : IsSound station.history
  pub lawful : IsLawfulStation station.history station.inputs
