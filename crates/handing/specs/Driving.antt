-- How a run goes on (profile).
use Rattle.std.specs.Prelude.{◌≡◌, ℕ, List, Option, Result, Err, OnOk, OnErr}
use Rattle.std.specs.Io.KnownBytes.{Appends}
use Rattle.mux.specs.History.{History, emitted}
use Rattle.outcome.specs.Taking.{IsOver, TakesAsNeeded}
use Rattle.outlet.specs.Written.{Sends, SendsBeginning}
use Rattle.outlet.specs.Sending.{bytes_of, HasAnalysed}
use Rattle.reading.specs.Failures.{FailsOnce}
use Rattle.outlet.specs.declared.outlet.Outlet.{Outlet}
use Rattle.outlet.specs.declared.run_fault.RunFault.{RunFault}
use Rattle.outlet.specs.declared.run_fault.RunFault.TheVariants.{Memory, Write}
use Rattle.outlet.specs.declared.slot_writer.SlotWriter.{SlotWriter}
use Rattle.station.specs.Stations.{StationValue, rings_of}

-- the bytes of what the history sent
abbrev pub output_of : History → List ℕ
output_of h = bytes_of (emitted h.run.schedule h.events)

-- what the history sent was analysed
abbrev pub HasAnalysedAll : SlotWriter → History → Type 0
HasAnalysedAll output h = HasAnalysed output h.run.schedule.first.request.rate h.run.schedule.first.request.watch (emitted h.run.schedule h.events)

-- It is the same run, the inputs come through the same rings, and nothing was taken but where the multiplex waited for it.
pub record IsSameRun (old new : StationValue) : Type 0 where
  pub run : new.history.run ≡ old.history.run
  pub rings : rings_of new.inputs ≡ rings_of old.inputs
  pub needed : TakesAsNeeded old.history.run old.history.events → TakesAsNeeded new.history.run new.history.events

-- The run went on, and failed: the sink got a beginning of what it sent.
pub record BreaksOff (old new : StationValue) (a : SlotWriter) (before after : Option (List ℕ)) : Type 0 where
  pub same : IsSameRun old new
  pub begun : (first : Option (List ℕ)) → Sends first before (output_of old.history) a.writer → SendsBeginning first after (output_of new.history)

-- The run went on to its end: what it sent was analysed, and the sink got all of it.
pub record IsDriven (old new : StationValue) (a b : SlotWriter) (before after : Option (List ℕ)) : Type 0 where
  pub same : IsSameRun old new
  pub over : IsOver new.history.run new.history.events
  pub analysed : HasAnalysedAll a old.history → HasAnalysedAll b new.history
  pub written : (first : Option (List ℕ)) → Sends first before (output_of old.history) a.writer → Appends first after (output_of new.history)

-- What came of driving a run whose packets went out by the one outlet, which is the other then: it went on to its end and no write failed,
-- or it failed. A failed write is told where one failed, and want of memory where none did.
pub record Drives {W : Type 0} (contents : W → Option (List ℕ)) (failures : W → ℕ) (old new : StationValue) (a b : Outlet W) (result : Result (Unit {0}) RunFault) : Type 0 where
  pub driven : OnOk result (IsDriven old new a.output b.output (contents a.sink) (contents b.sink))
  pub broken : OnErr result (BreaksOff old new a.output (contents a.sink) (contents b.sink))
  pub unfailed : OnOk result (failures b.sink ≡ failures a.sink)
  pub memory : result ≡ Err Memory → failures b.sink ≡ failures a.sink
  pub failed : result ≡ Err Write → FailsOnce (failures a.sink) (failures b.sink)
