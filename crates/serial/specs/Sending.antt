-- What waits to go out is written before an input is read (profile).
use Rattle.std.specs.Prelude.{◌≡◌, ◌⊎◌, ℕ, List, [], Option, Result, Err, OnOk}
use Rattle.reading.specs.Failures.{FailsOnce}
use Rattle.reading.specs.Holding.{PacketReader}
use Rattle.outlet.specs.Written.{Sends, SendsBeginning}
use Rattle.outlet.specs.declared.run_fault.RunFault.{RunFault}
use Rattle.outlet.specs.declared.run_fault.RunFault.TheVariants.{Memory, Write}
use Rattle.outlet.specs.declared.slot_writer.SlotWriter.{SlotWriter}

-- Nothing more was analysed. What waited was written but for what waits now; where a write failed, a beginning of it was.
pub record WritesWaiting {W T : Type 0} (contents : W → Option (List ℕ)) (failures : W → ℕ) (a : SlotWriter) (old : W) (b : SlotWriter) (new : W) (result : Result T RunFault) : Type 0 where
  pub output : b ≡ record a { writer = b.writer }
  pub written : OnOk result (Sends (contents old) (contents new) a.writer b.writer)
  pub begun : SendsBeginning (contents old) (contents new) a.writer
  pub unfailed : OnOk result (failures new ≡ failures old)
  pub memory : result ≡ Err Memory → failures new ≡ failures old
  pub failed : result ≡ Err Write → FailsOnce (failures old) (failures new)

-- an input wasn't read, or nothing waits to go out
abbrev pub ReadsWritten : {R : Type 0} → PacketReader R → PacketReader R → SlotWriter → Type 0
ReadsWritten old new output = (new.stream.source ≡ old.stream.source) ⊎ (output.writer ≡ [])
