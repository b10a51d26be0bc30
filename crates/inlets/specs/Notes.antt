-- What a history notes of an input: that the queue of its next packet was full, or that this packet was early (profile).
use Rattle.std.specs.Prelude.{◌≡◌, ℕ, ◌==◌, List, ◌∷◌, ◌++◌, length, Bool, true, false, Option, Some}
use Rattle.std.specs.List.{slice_get}
use Rattle.std.specs.Option.{option_to_list}
use Rattle.tspkt.specs.declared.stamped.Stamped.{Stamped}
use Rattle.schedule.specs.Schedule.{ScheduleValue}
use Rattle.mux.specs.declared.event.Event.{Event}
use Rattle.mux.specs.declared.event.Event.TheVariants.{Took, Full, Early, Close, Slot, Switch}
use Rattle.mux.specs.History.{taken, is_mapped_to}
use Rattle.mux.specs.Lawful.{is_early}

-- the event is one of the input
abbrev pub IsOfInput : ℕ → Event → Type 0
IsOfInput i (Took j item) = j ≡ i
IsOfInput i (Full j st) = j ≡ i
IsOfInput i (Early j) = j ≡ i
IsOfInput i (Close j) = j ≡ i
IsOfInput i (Slot c) = ⊥
IsOfInput i (Switch number) = ⊥

-- whether an event notes why the input is held up
abbrev pub is_note : ℕ → Event → Bool
is_note i (Full j st) = j == i
is_note i (Early j) = j == i
is_note i e = false

-- what it notes of a packet of the input: it goes to the stream whose queue was full, or it belonged to a later plan
abbrev pub IsNoted : ScheduleValue → ℕ → Event → List Event → Stamped → Type 0
IsNoted s i (Full j st) before item = is_mapped_to s st i item ≡ true
IsNoted s i (Early j) before item = is_early s before item ≡ true
IsNoted s i e before item = Unit {0}

-- Wherever a full queue or an early packet of the input was noted, it was that of the packet that comes next, in these packets, behind
-- those taken before.
abbrev pub NotesAreOfNext : ScheduleValue → ℕ → List Stamped → List Event → Type 0
NotesAreOfNext s i packets events =
    (after before : List Event) (e : Event) → events ≡ after ++ e ∷ before → is_note i e ≡ true
    → (item : Stamped) × (slice_get packets (length (taken i before)) ≡ Some item) × IsNoted s i e before item

-- the same in the packets that were taken, and the one that is shown behind them, if one is
abbrev pub NotesAreOfShown : ScheduleValue → ℕ → Option Stamped → List Event → Type 0
NotesAreOfShown s i shown events = NotesAreOfNext s i (taken i events ++ option_to_list shown) events
