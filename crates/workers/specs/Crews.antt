-- The workers of a run, and what they leave (profile).
use Rattle.std.specs.Prelude.{◌≡◌, ℕ, ◌≤◌, List, [], length, Bool, true, false, Option, Some, None}
use Rattle.std.specs.List.{slice_get}
use Rattle.schedule.specs.Schedule.{ScheduleValue}
use Rattle.port.specs.Rings.{PortValue, FinishedValue}
use Rattle.station.specs.Stations.{StationValue, rings_of}
use Rattle.station.specs.Settling.{IsSettled}
use Rattle.station.specs.declared.settled.Settled.{Settled}
use Rattle.worker.specs.declared.worker.Worker.{Worker}
use Rattle.reading.specs.declared.input_limit.InputLimit.{InputLimit}
use Rattle.workers.specs.Working.{IsWorkOf}
use Rattle.mux.specs.History.{is_closed}
use Rattle.reading.specs.declared.stop.Stop.{Stop}
use Rattle.reading.specs.declared.stop.Stop.TheVariants.{Gate, ReadFailed, TooMuch, Memory}
use Rattle.outcome.specs.declared.ended.Ended.{Ended}
use Rattle.workers.specs.declared.run_gate.RunGate.{RunGate}

-- the ports sent nothing yet
abbrev pub AreUnsent : {R G : Type 0} → List ((R × G) × PortValue) → Type 0
AreUnsent {R} {G} seats = (i : ℕ) (seat : (R × G) × PortValue) → slice_get seats i ≡ Some seat → seat.1.sent ≡ []

-- the worker reads the schedule's input i, of at most so many bytes at its size, from this reader, and sends by this port
pub record IsStarted {R G : Type 0} (limit : InputLimit) (schedule : ScheduleValue) (i : ℕ) (reader : R) (port : PortValue) (worker : Worker R G) : Type 0 where
  pub plan_is : worker.schedule ≡ schedule
  pub number_is : worker.number ≡ i
  pub limit_is : worker.limit ≡ limit
  pub source_is : worker.source ≡ reader
  pub port_is : worker.port ≡ port

-- the first of the inputs, each by its reader, its gate and its port, have these workers
pub record AreStarted {R G : Type 0} (limit : InputLimit) (schedule : ScheduleValue) (seats : List ((R × G) × PortValue)) (workers : List (Worker R (RunGate G))) : Type 0 where
  pub within : length workers ≤ length seats
  pub each : (i : ℕ) (seat : (R × G) × PortValue) (worker : Worker R (RunGate G)) → slice_get seats i ≡ Some seat → slice_get workers i ≡ Some worker
      → IsStarted limit schedule i seat.0.0 seat.1 worker

-- each worker's port is of the ring that its input comes through
abbrev pub AreOfStation : {R G : Type 0} → StationValue → List (Worker R G) → Type 0
AreOfStation {R} {G} station workers =
    (i : ℕ) (worker : Worker R G) → slice_get workers i ≡ Some worker
    → slice_get (rings_of station.inputs) worker.port.ring.input ≡ Some worker.port.ring

-- The worker did its work, and this became of what its port sent. It is told whether the input is closed.
pub record IsEnded {R G : Type 0} (remaining : R → Option (List ℕ)) (failures : R → ℕ) (station : StationValue) (worker : Worker R (RunGate G)) (ended : Ended (R × G)) : Type 0 where
  pub finished : FinishedValue
  pub work : IsWorkOf remaining failures worker ended.report finished ended.lent.0
  pub closed_is : ended.is_closed ≡ is_closed finished.port.ring.input station.history.events
  pub settled : Settled
  pub settles : IsSettled station finished settled

-- the same of the workers at the places of these
abbrev pub AreEnded : {R G : Type 0} → (R → Option (List ℕ)) → (R → ℕ) → StationValue → List (Worker R (RunGate G)) → List (Ended (R × G)) → Type 0
AreEnded {R} {G} remaining failures station workers ended =
    (i : ℕ) (worker : Worker R (RunGate G)) (e : Ended (R × G)) → slice_get workers i ≡ Some worker → slice_get ended i ≡ Some e
    → IsEnded remaining failures station worker e

-- the port at each input's seat is of the ring that the input comes through
abbrev pub AreSeated : {R G : Type 0} → StationValue → List ((R × G) × PortValue) → Type 0
AreSeated {R} {G} station seats =
    (i : ℕ) (seat : (R × G) × PortValue) → slice_get seats i ≡ Some seat
    → slice_get (rings_of station.inputs) seat.1.ring.input ≡ Some seat.1.ring

-- a worker with this report was stopped for want of memory
abbrev pub wants_memory : Option Stop → Bool
wants_memory None = false
wants_memory (Some Gate) = false
wants_memory (Some ReadFailed) = false
wants_memory (Some TooMuch) = false
wants_memory (Some Memory) = true

-- a worker wanted memory
abbrev pub WantedMemory : {R G : Type 0} → List (Ended (R × G)) → Type 0
WantedMemory {R} {G} ended = (i : ℕ) × (e : Ended (R × G)) × (slice_get ended i ≡ Some e) × (e.report.stopped ≡ Some Memory)

-- The input at each seat had a worker, and this became of them.
pub record HaveWorked {R G : Type 0} (remaining : R → Option (List ℕ)) (failures : R → ℕ) (limit : InputLimit) (schedule : ScheduleValue) (station : StationValue) (seats : List ((R × G) × PortValue)) (ended : List (Ended (R × G))) : Type 0 where
  pub workers : List (Worker R (RunGate G))
  pub started : AreStarted limit schedule seats workers
  pub all : length workers ≡ length seats
  pub count : length ended ≡ length workers
  pub became : AreEnded remaining failures station workers ended
