-- How the packets of an input come into a multiplex (profile).
use Rattle.std.specs.Prelude.{◌≡◌, ◌⊎◌, ℕ, ◌+◌, ◌-◌, ◌≤◌, true, false, if◌then◌else◌, List, length, Option, Some, None}
use Rattle.std.specs.List.{slice_get}
use Rattle.std.specs.Io.KnownBytes.{Consumes}
use Rattle.tspkt.specs.declared.framer.TheConstants.{MAX_LIMIT}
use Rattle.tspkt.specs.declared.stamped.Stamped.{Stamped}
use Rattle.request.specs.Request.{InputValue, IsInput}
use Rattle.request.specs.declared.stream.Stream.{Stream}
use Rattle.schedule.specs.Schedule.{ScheduleValue}
use Rattle.mux.specs.declared.event.Event.{Event}
use Rattle.mux.specs.declared.event.Event.TheVariants.{Took, Full, Early}
use Rattle.mux.specs.History.{History, with_event, is_mapped_to, taken, is_closed, full_noted, early_noted}
use Rattle.mux.specs.Lawful.{is_early}
use Rattle.reading.specs.Takeable.{OriginValue, origin_of, EndsAtTaken}
use Rattle.reading.specs.InputLimit.{limit_of_input}
use Rattle.reading.specs.PacketReading.{HasRead, IsSpent, TellsFailures}
use Rattle.reading.specs.declared.input_limit.InputLimit.{InputLimit}
use Rattle.reading.specs.declared.stop.Stop.{Stop}
use Rattle.reading.specs.declared.stop.Stop.TheVariants.{Gate, Memory}
use Rattle.reading.specs.Holding.{PacketReader}
use Rattle.inlets.specs.declared.entry.Entry.{Entry}
use Rattle.inlets.specs.Notes.{NotesAreOfShown}

-- an input of the run: its reader, and whether the multiplex was told that nothing more comes of it
abbrev pub SerialInput : Type 0 → Type 0
SerialInput R = Entry (PacketReader R)

-- where the packets of the schedule's input i come from
abbrev pub IsOrigin : ScheduleValue → ℕ → OriginValue → Type 0
IsOrigin schedule i origin =
    (input : InputValue) × (slice_get schedule.first.request.inputs i ≡ Some input) × IsInput input × (origin ≡ origin_of i input)

-- The input gave these packets, of a source that had these bytes to give at first. It has read some of them, and has looked at
-- some of the items that were told of those.
pub record HasGiven {R : Type 0} (remaining : R → Option (List ℕ)) (schedule : ScheduleValue) (i : ℕ) (start : Option (List ℕ)) (x : SerialInput R) (given : List Stamped) : Type 0 where
  pub origin : IsOrigin schedule i x.inlet.origin
  pub limit : x.inlet.stream.items.limit ≤ MAX_LIMIT
  pub read : (bytes : List ℕ) × Consumes start (remaining x.inlet.stream.source) bytes × HasRead remaining schedule x.inlet bytes given

-- What stopped an input, if anything, came of the input: the run didn't leave it, and had memory for it.
pub record IsOwnStop (stopped : Option Stop) : Type 0 where
  pub unleft : stopped ≡ Some Gate → ⊥
  pub unrefused : stopped ≡ Some Memory → ⊥

-- The multiplex took just the packets that the input gave; it was closed in the multiplex where the input says so, which is
-- where nothing is left of it; and nothing stopped it but its own fault. Of one that is open no item was looked at behind the
-- last packet that was taken or is held. What was noted of it was noted of the packet that came next.
pub record Feeds {R : Type 0} (remaining : R → Option (List ℕ)) (schedule : ScheduleValue) (h : List Event) (i : ℕ) (start : Option (List ℕ)) (x : SerialInput R) : Type 0 where
  pub given : HasGiven remaining schedule i start x (taken i h)
  pub closed : x.is_closed ≡ is_closed i h
  pub over : x.is_closed ≡ true → IsSpent x.inlet
  pub own : IsOwnStop x.inlet.report.stopped
  pub stands : x.is_closed ≡ false → EndsAtTaken schedule x.inlet.origin given.read.2.0
  pub notes : NotesAreOfShown schedule i x.inlet.held h

-- The same of an input that may have been given up for want of memory, wherever it was looked at.
pub record HasFed {R : Type 0} (remaining : R → Option (List ℕ)) (schedule : ScheduleValue) (h : List Event) (i : ℕ) (start : Option (List ℕ)) (x : SerialInput R) : Type 0 where
  pub given : HasGiven remaining schedule i start x (taken i h)
  pub closed : x.is_closed ≡ is_closed i h
  pub over : x.is_closed ≡ true → IsSpent x.inlet
  pub notes : NotesAreOfShown schedule i x.inlet.held h

-- The same of an input that goes on, wherever it was looked at.
pub record FeedsOn {R : Type 0} (remaining : R → Option (List ℕ)) (schedule : ScheduleValue) (h : List Event) (i : ℕ) (start : Option (List ℕ)) (x : SerialInput R) : Type 0 where
  pub fed : HasFed remaining schedule h i start x
  pub own : IsOwnStop x.inlet.report.stopped

-- no input was given up for want of memory
abbrev pub AreUnrefused : {R : Type 0} → List (SerialInput R) → Type 0
AreUnrefused {R} inputs = (i : ℕ) (x : SerialInput R) → slice_get inputs i ≡ Some x → x.inlet.report.stopped ≡ Some Memory → ⊥

-- each of the schedule's inputs may have so many bytes at its size, at most
abbrev pub AreLimited : {R : Type 0} → InputLimit → ScheduleValue → List (SerialInput R) → Type 0
AreLimited {R} limit schedule inputs =
    (i : ℕ) (input : InputValue) (x : SerialInput R) → slice_get schedule.first.request.inputs i ≡ Some input → slice_get inputs i ≡ Some x
    → x.inlet.stream.items.limit ≡ limit_of_input limit input.size

-- how often the multiplex may still turn to the input before a slot is sent or the next plan comes, at most: no input has more packets than bytes
abbrev pub turns_left : ℕ → List Event → ℕ
turns_left i h =
    (MAX_LIMIT - length (taken i h)) + (if is_closed i h then 0 else 1) + (if full_noted i h then 0 else 1) + (if early_noted i h then 0 else 1)

-- The item that the input held was taken of it, or is still held, where the queue of its stream was found full, or it belongs to a
-- later plan.
abbrev pub IsGivenOrHeld : {R : Type 0} → History → History → ℕ → SerialInput R → SerialInput R → Stamped → Type 0
IsGivenOrHeld before after i old new item =
    ((after ≡ with_event before (Took i item)) × (new ≡ record old { inlet = record old.inlet { held = None } }))
    ⊎ ((st : Stream) × (after ≡ with_event before (Full i st)) × (new ≡ old) × (is_mapped_to before.run.schedule st i item ≡ true))
    ⊎ ((after ≡ with_event before (Early i)) × (new ≡ old) × (is_early before.run.schedule before.events item ≡ true))

-- the failures of all inputs are told
abbrev pub AllTellFailures : {R : Type 0} → (R → ℕ) → List ℕ → List (SerialInput R) → Type 0
AllTellFailures {R} failures befores inputs =
    (i : ℕ) (x : SerialInput R) (before : ℕ) → slice_get inputs i ≡ Some x → slice_get befores i ≡ Some before
    → TellsFailures failures before x.inlet
