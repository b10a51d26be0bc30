-- The inputs of a run before anything is read (profile).
use Rattle.std.specs.Prelude.{◌≡◌, ℕ, List, [], length, Option, Some}
use Rattle.std.specs.List.{slice_get}
use Rattle.request.specs.Request.{InputValue}
use Rattle.schedule.specs.Schedule.{ScheduleValue}
use Rattle.serial.specs.Feeding.{SerialInput, Feeds}
use Rattle.reading.specs.InputLimit.{limit_of_input}
use Rattle.reading.specs.PacketReading.{TellsFailures}
use Rattle.reading.specs.declared.input_limit.InputLimit.{InputLimit}

-- the schedule's input i is to be read from the reader, and may have so many bytes at its size
pub record IsOpened {R : Type 0} (remaining : R → Option (List ℕ)) (failures : R → ℕ) (limit : InputLimit) (schedule : ScheduleValue) (i : ℕ) (reader : R) (x : SerialInput R) : Type 0 where
  pub feeds : Feeds remaining schedule [] i (remaining reader) x
  pub limited : (input : InputValue) → slice_get schedule.first.request.inputs i ≡ Some input → x.inlet.stream.items.limit ≡ limit_of_input limit input.size
  pub told : TellsFailures failures (failures reader) x.inlet

-- each input is to be read from the reader at its place
pub record AreOpened {R : Type 0} (remaining : R → Option (List ℕ)) (failures : R → ℕ) (limit : InputLimit) (schedule : ScheduleValue) (readers : List R) (inputs : List (SerialInput R)) : Type 0 where
  pub count : length inputs ≡ length readers
  pub each : (i : ℕ) (reader : R) (x : SerialInput R) → slice_get readers i ≡ Some reader → slice_get inputs i ≡ Some x
      → IsOpened remaining failures limit schedule i reader x
