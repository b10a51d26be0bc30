-- What the thread of a worker hands on (profile).
use Rattle.std.specs.Prelude.{◌≡◌, ℕ, List, Option, Some, false}
use Rattle.std.specs.List.{slice_get}
use Rattle.request.specs.Request.{InputValue}
use Rattle.reading.specs.Failures.{FailsOnce}
use Rattle.reading.specs.InputLimit.{limit_of_input}
use Rattle.reading.specs.Takeable.{origin_of}
use Rattle.reading.specs.declared.report.Report.{Report}
use Rattle.reading.specs.declared.stop.Stop.TheVariants.{Gate, ReadFailed}
use Rattle.port.specs.Rings.{FinishedValue}
use Rattle.worker.specs.Working.{HasWorked}
use Rattle.worker.specs.declared.worker.Worker.{Worker}

-- what the contract of a worker says of its report, its finished port and its source
pub record IsWorkOf {R G : Type 0} (remaining : R → Option (List ℕ)) (failures : R → ℕ) (worker : Worker R G) (report : Report) (finished : FinishedValue) (left : R) : Type 0 where
  pub sent : (input : InputValue) → slice_get worker.schedule.first.request.inputs worker.number ≡ Some input
      → HasWorked (limit_of_input worker.limit input.size) worker.schedule (origin_of worker.number input) (remaining worker.source) (remaining left) worker.port.ring report finished
  pub failed : report.stopped ≡ Some ReadFailed → FailsOnce (failures worker.source) (failures left)
  pub unfailed : (report.stopped ≡ Some ReadFailed → ⊥) → failures left ≡ failures worker.source
  -- where the gate stopped it no end mark was sent
  pub unmarked : report.stopped ≡ Some Gate → finished.is_ended ≡ false
