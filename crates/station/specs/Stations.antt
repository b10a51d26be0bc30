-- A station, and what each of them keeps (profile).
use Rattle.std.specs.Prelude.{◌≡◌, ◌≢◌, ◌⊎◌, ℕ, List, ◌++◌, length, map, true, Some, None}
use Rattle.std.specs.List.{slice_get}
use Rattle.std.specs.Option.{option_to_list}
use Rattle.tspkt.specs.declared.stamped.Stamped.{Stamped}
use Rattle.mux.specs.History.{History, taken, is_closed}
use Rattle.mux.specs.Lawful.{input_count}
use Rattle.port.specs.Rings.{RingId, RingEndValue}
use Rattle.inlets.specs.declared.entry.Entry.{Entry}
use Rattle.inlets.specs.Notes.{NotesAreOfShown}
use Rattle.inlets.specs.Turns.{IsRefusedForGood}

-- an input of a station: the end of its ring, and whether the multiplex was told that nothing more comes of it
abbrev pub Input : Type 0
Input = Entry RingEndValue

-- a station: the history of its multiplex, and its inputs
pub record StationValue : Type 0 where
  pub history : History
  pub inputs : List Input

-- which ring each input comes through
abbrev pub rings_of : List Input → List RingId
rings_of inputs = map (λ x. x.inlet.ring) inputs

-- What a station keeps of an input.
pub record IsLawfulInput (h : History) (i : ℕ) (x : Input) : Type 0 where
  -- the packets that came out of the ring are those that were taken, and then the one that is shown
  pub received : x.inlet.received ≡ taken i h.events ++ option_to_list x.inlet.head
  pub notes : NotesAreOfShown h.run.schedule i x.inlet.head h.events
  -- it is closed where the multiplex was told so
  pub closed : x.is_closed ≡ is_closed i h.events
  -- which is where the end mark came and no packet is shown, or where the packet that is shown can never be taken
  pub closes : x.is_closed ≡ true
      → ((x.inlet.is_ended ≡ true) × (x.inlet.head ≡ None)) ⊎ ((item : Stamped) × (x.inlet.head ≡ Some item) × IsRefusedForGood h i item)

-- there is one an input of the schedule, in its order
pub record IsLawfulStation (h : History) (inputs : List Input) : Type 0 where
  pub count : length inputs ≡ input_count h.run.schedule
  pub each : (i : ℕ) (x : Input) → slice_get inputs i ≡ Some x → IsLawfulInput h i x

-- what a station keeps of the other inputs it keeps still
abbrev pub LeavesOthers : ℕ → History → History → Type 0
LeavesOthers i old new = (j : ℕ) (x : Input) → j ≢ i → IsLawfulInput old j x → IsLawfulInput new j x
