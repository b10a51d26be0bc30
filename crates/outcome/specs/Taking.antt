-- What a run takes of its inputs, and when it is over (profile).
use Rattle.std.specs.Prelude.{◌≡◌, ◌⊎◌, ℕ, ◌<◌, ◌≤◌, List, [], ◌∷◌, ◌++◌, Option, Some}
use Rattle.std.specs.List.{slice_get}
use Rattle.tspkt.specs.declared.stamped.Stamped.{Stamped}
use Rattle.request.specs.Request.{InputValue}
use Rattle.schedule.specs.Schedule.{ScheduleValue}
use Rattle.mux.specs.declared.event.Event.{Event}
use Rattle.mux.specs.declared.event.Event.TheVariants.{Took, Full, Early, Close, Slot, Switch}
use Rattle.mux.specs.History.{Run, slots, taken}
use Rattle.mux.specs.Lawful.{IsDone}
use Rattle.mux.specs.Answers.{IsLeastUnready}
use Rattle.reading.specs.Takeable.{framed_at, takeable, origin_of}

-- the multiplex waits for the input: it has slots left, and of the inputs that aren't ready this is the first
abbrev pub WaitsFor : Run → List Event → ℕ → Type 0
WaitsFor run h i = (slots h < run.limit) × IsLeastUnready (record { run = run; events = h }) i

-- what comes of an input comes where the multiplex waits for it
abbrev pub IsNeeded : Run → Event → List Event → Type 0
IsNeeded run (Took i item) h = WaitsFor run h i
IsNeeded run (Full i st) h = WaitsFor run h i
IsNeeded run (Early i) h = WaitsFor run h i
IsNeeded run (Close i) h = WaitsFor run h i
IsNeeded run (Slot c) h = Unit {0}
IsNeeded run (Switch number) h = Unit {0}

-- No packet was offered and no input closed but where the multiplex waited for it.
abbrev pub TakesAsNeeded : Run → List Event → Type 0
TakesAsNeeded run [] = Unit {0}
TakesAsNeeded run (e ∷ h) = IsNeeded run e h × TakesAsNeeded run h

-- What was taken of each input begins what can be taken of its source's bytes, where they are known.
abbrev pub AreBegun : ScheduleValue → List Event → List (Option (List ℕ)) → Type 0
AreBegun schedule h starts =
    (i : ℕ) (input : InputValue) (all : List ℕ) → slice_get schedule.first.request.inputs i ≡ Some input → slice_get starts i ≡ Some (Some all)
    → (later : List Stamped) × (taken i h ++ later ≡ takeable schedule (origin_of i input) (framed_at (origin_of i input) all))

-- it has all its slots, or all inputs are closed and nothing waits
abbrev pub IsOver : Run → List Event → Type 0
IsOver run h = (run.limit ≤ slots h) ⊎ IsDone run.schedule h
