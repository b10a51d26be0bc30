-- The turn of an input: what is taken of it (profile).
use Rattle.std.specs.Prelude.{◌≡◌, ◌⊎◌, ℕ, ◌<◌, true, false, Option, Some, None, IsSome}
use Rattle.tspkt.specs.declared.stamped.Stamped.{Stamped}
use Rattle.schedule.specs.Schedule.{ScheduleValue}
use Rattle.mux.specs.declared.event.Event.TheVariants.{Took, Close}
use Rattle.mux.specs.History.{History, with_event, last_stamp}
use Rattle.mux.specs.Lawful.{Early, Full, refusal_of, is_mapped}
use Rattle.mux.specs.Answers.{NotesFull, NotesEarly}
use Rattle.inlets.specs.declared.entry.Entry.{Entry}
use Rattle.inlets.specs.declared.taking.Taking.{Taking}
use Rattle.inlets.specs.declared.taking.Taking.TheVariants as turn

-- The packet can never be taken of the input: the plan that it belongs to has no stream of its PID, or its time is before that of the
-- packet last taken.
abbrev pub IsRefusedForGood : History → ℕ → Stamped → Type 0
IsRefusedForGood h i item =
    (is_mapped h.run.schedule i item ≡ false) ⊎ (item.stamp < last_stamp i h.events)

-- The packet isn't taken now: the queue of its stream is full, or it belongs to a later plan, which is noted.
abbrev pub IsPutOff : ℕ → History → Stamped → History → Type 0
IsPutOff i old item new =
    ((refusal_of old.run.schedule old.events i item ≡ Some Full) × NotesFull old i item new)
    ⊎ ((refusal_of old.run.schedule old.events i item ≡ Some Early) × NotesEarly old i new)

-- What came of an input whose inlet shows a packet, or nothing.
abbrev pub IsTurned : {I : Type 0} → (I → Option Stamped) → (I → Type 0) → (I → Type 0) → (I → I) → ℕ → History → Entry I → Taking → History → Entry I → Type 0
IsTurned shown is_over is_waiting released i old x turn.Took new y =
    (item : Stamped) × (shown x.inlet ≡ Some item) × (new ≡ with_event old (Took i item)) × (y ≡ record x { inlet = released x.inlet })
IsTurned shown is_over is_waiting released i old x turn.HeldBack new y =
    (item : Stamped) × (shown x.inlet ≡ Some item) × IsPutOff i old item new × (y ≡ x)
IsTurned shown is_over is_waiting released i old x turn.Closed new y =
    (((item : Stamped) × (shown x.inlet ≡ Some item) × IsRefusedForGood old i item) ⊎ (is_over x.inlet × (shown x.inlet ≡ None)))
    × (new ≡ with_event old (Close i)) × (y ≡ record x { is_closed = true })
IsTurned shown is_over is_waiting released i old x turn.Waits new y =
    is_waiting x.inlet × (shown x.inlet ≡ None) × (new ≡ old) × (y ≡ x)

-- the same behind a look, which shows a packet that was shown before still
abbrev pub Turns : {I : Type 0} → (I → Option Stamped) → (I → Type 0) → (I → Type 0) → (ScheduleValue → I → I → Type 0) → (I → I) → ℕ → History → Entry I → Taking → History → Entry I → Type 0
Turns {I} shown is_over is_waiting looks released i old x answer new y =
    (seen : I) × looks old.run.schedule x.inlet seen × (IsSome (shown x.inlet) → seen ≡ x.inlet)
    × IsTurned shown is_over is_waiting released i old (record x { inlet = seen }) answer new y
