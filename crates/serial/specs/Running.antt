-- A run: its inputs, its multiplex and what went out (profile).
use Rattle.std.specs.Prelude.{◌≡◌, ℕ, ◌+◌, ◌*◌, ◌-◌, ◌<◌, List, length, sum_by, Option, Some, false, Result, Err, OnOk, OnErr}
use Rattle.std.specs.List.{slice_get, range_with_len}
use Rattle.schedule.specs.Schedule.{ScheduleValue}
use Rattle.mux.specs.declared.event.Event.{Event}
use Rattle.mux.specs.History.{Run, in_force, slots, emitted}
use Rattle.mux.specs.Lawful.{is_ready}
use Rattle.reading.specs.declared.input_limit.InputLimit.{InputLimit}
use Rattle.reading.specs.Failures.{FailsOnce}
use Rattle.reading.specs.declared.stop.Stop.{Stop}
use Rattle.reading.specs.declared.stop.Stop.TheVariants as stops
use Rattle.serial.specs.Feeding.{SerialInput, Feeds, HasFed, AreLimited, AreUnrefused, AllTellFailures, turns_left}
use Rattle.outlet.specs.Sending.{bytes_of, HasAnalysed}
use Rattle.outlet.specs.Written.{Sends, SendsBeginning}
use Rattle.outlet.specs.declared.run_fault.RunFault.{RunFault}
use Rattle.outlet.specs.declared.run_fault.RunFault.TheVariants.{Memory, Write}
use Rattle.outcome.specs.Taking.{TakesAsNeeded}
use Rattle.serial.specs.declared.serial_run.SerialRun.{SerialRun}

-- each input's source had these bytes to give at first, and the multiplex took what the inputs gave of them
pub record AreFed {R : Type 0} (remaining : R → Option (List ℕ)) (schedule : ScheduleValue) (h : List Event) (starts : List (Option (List ℕ))) (inputs : List (SerialInput R)) : Type 0 where
  pub count : length inputs ≡ length schedule.first.request.inputs
  pub each : (i : ℕ) (x : SerialInput R) → slice_get inputs i ≡ Some x
      → (start : Option (List ℕ)) × (slice_get starts i ≡ Some start) × Feeds remaining schedule h i start x

-- The run goes on over these sources, each of at most so many bytes at its input's size: it takes the inputs' packets in their
-- order, and as they are needed, and its packets were analysed.
pub record IsRunning {R : Type 0} (remaining : R → Option (List ℕ)) (run : Run) (limit : InputLimit) (starts : List (Option (List ℕ))) (r : SerialRun R) : Type 0 where
  pub run_is : r.mux.run ≡ run
  pub fed : AreFed remaining run.schedule r.mux.events starts r.inputs.items
  pub limited : AreLimited limit run.schedule r.inputs.items
  pub piece : 0 < length r.piece.items
  pub needed : TakesAsNeeded run r.mux.events
  pub analysed : HasAnalysed r.output run.schedule.first.request.rate run.schedule.first.request.watch (emitted run.schedule r.mux.events)

-- how many steps are left, at most: slots that may still be sent and plans that may still come, and turns to inputs before each of them
abbrev pub steps_left : Run → List Event → ℕ
steps_left run h =
    (run.limit - slots h + (length run.schedule.later - in_force h)) * (2 * length run.schedule.first.request.inputs + 1)
    + sum_by (λ i. turns_left i h) (range_with_len 0 (length run.schedule.first.request.inputs))

-- What stopped an input of a run that fails, if anything. An input is read no further for its own fault, or for want of memory,
-- and then the multiplex still waits for it: no slot was sent since.
pub record IsHalted (schedule : ScheduleValue) (h : List Event) (i : ℕ) (stopped : Option Stop) : Type 0 where
  pub unleft : stopped ≡ Some stops.Gate → ⊥
  pub refused : stopped ≡ Some stops.Memory → is_ready schedule i h ≡ false

-- The inputs of a run that fails, each of at most so many bytes at its size, and what it took of them, in their order.
pub record AreHalted {R : Type 0} (remaining : R → Option (List ℕ)) (limit : InputLimit) (schedule : ScheduleValue) (h : List Event) (starts : List (Option (List ℕ))) (inputs : List (SerialInput R)) : Type 0 where
  pub count : length inputs ≡ length schedule.first.request.inputs
  pub each : (i : ℕ) (x : SerialInput R) → slice_get inputs i ≡ Some x → IsHalted schedule h i x.inlet.report.stopped
  pub limited : AreLimited limit schedule inputs
  pub fed : (i : ℕ) (x : SerialInput R) → slice_get inputs i ≡ Some x
      → (start : Option (List ℕ)) × (slice_get starts i ≡ Some start) × HasFed remaining schedule h i start x

-- a sink got what the run sent, but for what waits
abbrev pub HasWritten : {R : Type 0} → Option (List ℕ) → Option (List ℕ) → SerialRun R → Type 0
HasWritten before after r = Sends before after (bytes_of (emitted r.mux.run.schedule r.mux.events)) r.output.writer

-- What a run did meanwhile that answers this, over whichever sources it goes on, and what a sink got of it.
pub record GoesOn {R W T : Type 0} (remaining : R → Option (List ℕ)) (failures : R → ℕ) (contents : W → Option (List ℕ)) (failed : W → ℕ) (old : SerialRun R) (before : W) (result : Result T RunFault) (new : SerialRun R) (after : W) : Type 0 where
  pub run : new.mux.run ≡ old.mux.run
  -- a failed read is told exactly where a source failed
  pub told : (befores : List ℕ) → AllTellFailures failures befores old.inputs.items → AllTellFailures failures befores new.inputs.items
  -- without a fault it goes on, and what it sent was written, but for what waits
  pub runs : OnOk result ((run : Run) (limit : InputLimit) (starts : List (Option (List ℕ))) → IsRunning remaining run limit starts old → IsRunning remaining run limit starts new)
  pub written : OnOk result ((first : Option (List ℕ)) → HasWritten first (contents before) old → HasWritten first (contents after) new)
  pub unfailed : OnOk result (failed after ≡ failed before)
  -- with one it halts, what it took was needed, and a beginning of what it sent was written
  pub halted : OnErr result ((run : Run) (limit : InputLimit) (starts : List (Option (List ℕ))) → IsRunning remaining run limit starts old
      → AreHalted remaining limit run.schedule new.mux.events starts new.inputs.items × TakesAsNeeded run new.mux.events)
  pub begun : OnErr result ((first : Option (List ℕ)) → HasWritten first (contents before) old → SendsBeginning first (contents after) (bytes_of (emitted new.mux.run.schedule new.mux.events)))
  pub unrefused : result ≡ Err Write → AreUnrefused new.inputs.items
  pub memory : result ≡ Err Memory → failed after ≡ failed before
  pub write_failed : result ≡ Err Write → FailsOnce (failed before) (failed after)
