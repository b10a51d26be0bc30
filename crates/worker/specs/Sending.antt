-- How an input's packets go into its ring, step by step (profile).
use Rattle.std.specs.Prelude.{◌≡◌, ℕ, List, Bool, true, false, Option, Some, None}
use Rattle.std.specs.Io.KnownBytes.{Consumes}
use Rattle.reading.specs.PacketReading.{HasRead, TellsFailures}
use Rattle.reading.specs.declared.stop.Stop.{Stop}
use Rattle.reading.specs.declared.stop.Stop.TheVariants.{Gate}
use Rattle.worker.specs.declared.sender.Sender.{Sender}

-- of a source that had these bytes to give at first, some were read, and the port sent all that the reader gave of them
abbrev pub HasSent : {R G : Type 0} → (R → Option (List ℕ)) → Option (List ℕ) → Sender R G → Type 0
HasSent remaining start x =
    (bytes : List ℕ) × Consumes start (remaining x.reader.stream.source) bytes × HasRead remaining x.schedule x.reader bytes x.port.sent

-- The input was read on, and what it gave was sent: by the port of the same ring. Failures are told as before, and nothing but
-- the input stopped the reading.
pub record SendsOn {R G : Type 0} (remaining : R → Option (List ℕ)) (failures : R → ℕ) (old new : Sender R G) : Type 0 where
  pub sent : (start : Option (List ℕ)) → HasSent remaining start old → HasSent remaining start new
  pub told : (before : ℕ) → TellsFailures failures before old.reader → TellsFailures failures before new.reader
  pub unleft : new.reader.report.stopped ≡ Some Gate → old.reader.report.stopped ≡ Some Gate
  pub schedule : new.schedule ≡ old.schedule
  pub ring : new.port.ring ≡ old.port.ring
  pub origin : new.reader.origin ≡ old.reader.origin
  pub limit : new.reader.stream.items.limit ≡ old.reader.stream.items.limit

-- What is told of a worker is what stopped it first: what stopped its reading, or else its sending, or else the gate, where it
-- said no before the end mark was sent.
abbrev pub first_cause : Option Stop → Option Stop → Bool → Option Stop
first_cause (Some cause) sending is_ended = Some cause
first_cause None (Some cause) is_ended = Some cause
first_cause None None true = None
first_cause None None false = Some Gate
