-- What the thread of the output takes out of its relay, and what goes out (profile).
use Rattle.std.specs.Prelude.{◌≡◌, ℕ, List, ◌++◌, true, Option, Result, Err, OnOk, OnErr}
use Rattle.std.specs.List.{flat_map}
use Rattle.std.specs.Io.KnownBytes.{Appends}
use Rattle.reading.specs.Failures.{FailsOnce}
use Rattle.relay.specs.Relays.{ReceiverValue}
use Rattle.outlet.specs.Sending.{bytes_of, HasAnalysed}
use Rattle.outlet.specs.Written.{Sends, SendsBeginning}
use Rattle.outlet.specs.declared.run_fault.RunFault.{RunFault}
use Rattle.outlet.specs.declared.run_fault.RunFault.TheVariants.{Memory, Write}
use Rattle.outlet.specs.declared.outlet.Outlet.{Outlet}
use Rattle.handing.specs.declared.output_worker.OutputWorker.{OutputWorker}
use Rattle.handing.specs.declared.written.Written.{Written}

-- the packets of these blocks, in their order
abbrev pub packets_in : List (List (List ℕ)) → List (List ℕ)
packets_in blocks = flat_map (λ block. block) blocks

-- These packets were analysed and written, but for what waits in the buffer. Where a fault ended it, a beginning of them was written.
pub record IsPut {W T : Type 0} (contents : W → Option (List ℕ)) (failures : W → ℕ) (a : Outlet W) (packets : List (List ℕ)) (b : Outlet W) (result : Result T RunFault) : Type 0 where
  pub analysed : OnOk result ((rate period : ℕ) (slots : List (List ℕ)) → HasAnalysed a.output rate period slots → HasAnalysed b.output rate period (slots ++ packets))
  pub written : OnOk result (Sends (contents a.sink) (contents b.sink) (a.output.writer ++ bytes_of packets) b.output.writer)
  pub begun : OnErr result (SendsBeginning (contents a.sink) (contents b.sink) (a.output.writer ++ bytes_of packets))
  pub unfailed : OnOk result (failures b.sink ≡ failures a.sink)
  pub memory : result ≡ Err Memory → failures b.sink ≡ failures a.sink
  pub failed : result ≡ Err Write → FailsOnce (failures a.sink) (failures b.sink)

-- These blocks came out of the relay, behind what came before: all that came before the end mark, and their packets were analysed and
-- written. Where a fault ended it, a beginning of them was written.
pub record IsWritten {W T : Type 0} (contents : W → Option (List ℕ)) (failures : W → ℕ) (old : ReceiverValue) (a : Outlet W) (new : ReceiverValue) (b : Outlet W) (result : Result T RunFault) : Type 0 where
  pub taken : List (List (List ℕ))
  pub relay : new.relay ≡ old.relay
  pub received : new.received ≡ old.received ++ taken
  pub ended : OnOk result (new.is_ended ≡ true)
  pub analysed : OnOk result ((rate period : ℕ) (slots : List (List ℕ)) → HasAnalysed a.output rate period slots → HasAnalysed b.output rate period (slots ++ packets_in taken))
  pub written : OnOk result (Appends (contents a.sink) (contents b.sink) (a.output.writer ++ bytes_of (packets_in taken)))
  pub begun : OnErr result (SendsBeginning (contents a.sink) (contents b.sink) (a.output.writer ++ bytes_of (packets_in taken)))
  pub unfailed : OnOk result (failures b.sink ≡ failures a.sink)
  pub memory : result ≡ Err Memory → failures b.sink ≡ failures a.sink
  pub failed : result ≡ Err Write → FailsOnce (failures a.sink) (failures b.sink)

-- The same of a worker, and what it leaves.
abbrev pub HasWritten : {W : Type 0} → (W → Option (List ℕ)) → (W → ℕ) → OutputWorker W → Written W → Type 0
HasWritten contents failures worker done =
    IsWritten contents failures worker.receiver worker.outlet done.receiver done.outlet done.result
