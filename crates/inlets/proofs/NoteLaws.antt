-- What is noted of an input, from turn to turn.
use Rattle.std.proofs.Common.{ℕ, ◌≡◌, ◌⊎◌, Bool, true, false, cond, List, [], ◌∷◌, ◌++◌, length, slice_get, Option, Some, None, refl, ap, sym, subst, ◌∙◌, inl, inr, append-nil}
use Rattle.std.specs.Prelude.{IsSome}
use Rattle.std.specs.Option.{option_to_list}
use Rattle.tspkt.specs.declared.stamped.Stamped.{Stamped}
use Rattle.request.specs.declared.stream.Stream.{Stream}
use Rattle.schedule.specs.Schedule.{ScheduleValue}
use Rattle.mux.specs.declared.event.Event.{Event}
use Rattle.mux.specs.declared.event.Event.TheVariants.{Took, Full, Early, Close}
use Rattle.mux.specs.History.{History, with_event, taken, full_noted, early_noted, is_mapped_to}
use Rattle.mux.specs.Lawful.{is_early}
use Rattle.mux.proofs.Refusals.{early_of}
use Rattle.inlets.specs.Notes.{IsOfInput, IsNoted, NotesAreOfNext, NotesAreOfShown}
use Rattle.inlets.specs.Turns.{IsPutOff, IsTurned}
use Rattle.inlets.specs.declared.entry.Entry.{Entry}
use Rattle.inlets.specs.declared.taking.Taking.{Taking}
use Rattle.inlets.specs.declared.taking.Taking.TheVariants as turn
use Rattle.inlets.proofs.EventLaws.{Spares, took_own, notes_on, notes_more, get_behind}

-- nothing is noted where nothing happened
pub notes_none : (s : ScheduleValue) (i : ℕ) (packets : List Stamped) → NotesAreOfNext s i packets []
notes_none s i packets [] before e is noted = cc
notes_none s i packets (a ∷ after) before e is noted = cc

-- a packet is shown
pub notes_shown : (s : ScheduleValue) (i : ℕ) (item : Stamped) (h : List Event) → NotesAreOfShown s i None h → NotesAreOfShown s i (Some item) h
notes_shown s i item h old =
    let N : List Stamped → Type 0 = λ xs. NotesAreOfNext s i xs h in
    notes_more s i (taken i h) (item ∷ []) h (subst N (append-nil (taken i h)) old)

-- an inlet was looked at, and shows what it showed, if it did
pub notes_seen : (s : ScheduleValue) (i : ℕ) (old new : Option Stamped) (h : List Event) → (IsSome old → new ≡ old) → NotesAreOfShown s i old h → NotesAreOfShown s i new h
notes_seen s i (Some item) new h stays notes = (let N : Option Stamped → Type 0 = λ o. NotesAreOfShown s i o h in subst N (sym (stays refl)) notes)
notes_seen s i None None h stays notes = notes
notes_seen s i None (Some item) h stays notes = notes_shown s i item h notes

-- it is taken
pub notes_taken : (s : ScheduleValue) (i : ℕ) (item : Stamped) (h : List Event) → NotesAreOfShown s i (Some item) h → NotesAreOfShown s i None (Took i item ∷ h)
notes_taken s i item h old =
    let N : List Stamped → Type 0 = λ xs. NotesAreOfNext s i xs (Took i item ∷ h) in
    subst N (sym (append-nil (taken i (Took i item ∷ h)) ∙ took_own i h item)) (notes_on s i (taken i h ++ item ∷ []) h (Took i item) refl old)

-- it is noted why it isn't
pub notes_next : (s : ScheduleValue) (i : ℕ) (item : Stamped) (e : Event) (h : List Event) → IsNoted s i e h item → NotesAreOfNext s i (taken i h ++ item ∷ []) h → NotesAreOfNext s i (taken i h ++ item ∷ []) (e ∷ h)
notes_next s i item e h tells old [] before note is noted =
    let same : h ≡ before = cc in
    let one : e ≡ note = cc in
    let P : List Event → Type 0 = λ es. IsNoted s i e es item in
    let Q : Event → Type 0 = λ v. IsNoted s i v before item in (
      item,
      ap (λ (es : List Event). slice_get (taken i h ++ item ∷ []) (length (taken i es))) (sym same) ∙ get_behind (taken i h) item,
      subst Q one (subst P same tells),
    )
notes_next s i item e h tells old (a ∷ after) before note is noted = (let same : h ≡ after ++ note ∷ before = cc in old after before note same noted)

-- nothing more comes
pub notes_closed : (s : ScheduleValue) (i : ℕ) (shown : Option Stamped) (h : List Event) → NotesAreOfShown s i shown h → NotesAreOfShown s i shown (Close i ∷ h)
notes_closed s i shown h old = notes_on s i (taken i h ++ option_to_list shown) h (Close i) refl old

-- it is another's event, or no input's
pub notes_spared : (s : ScheduleValue) (j : ℕ) (shown : Option Stamped) (h : List Event) (e : Event) → Spares j h e → NotesAreOfShown s j shown h → NotesAreOfShown s j shown (e ∷ h)
notes_spared s j shown h e spares old =
    let N : List Stamped → Type 0 = λ xs. NotesAreOfNext s j (xs ++ option_to_list shown) (e ∷ h) in
    subst N (sym spares.taken_is) (notes_on s j (taken j h ++ option_to_list shown) h e spares.unnoted old)

-- What a turn leaves.

full_so : (h : History) (i : ℕ) (item : Stamped) (st : Stream) (b : Bool) → is_mapped_to h.run.schedule st i item ≡ true → NotesAreOfShown h.run.schedule i (Some item) h.events
    → NotesAreOfShown h.run.schedule i (Some item) (cond b h (with_event h (Full i st))).events
full_so h i item st true mapped old = old
full_so h i item st false mapped old = notes_next h.run.schedule i item (Full i st) h.events mapped old

early_so : (h : History) (i : ℕ) (item : Stamped) (b : Bool) → is_early h.run.schedule h.events item ≡ true → NotesAreOfShown h.run.schedule i (Some item) h.events
    → NotesAreOfShown h.run.schedule i (Some item) (cond b h (with_event h (Early i))).events
early_so h i item true early old = old
early_so h i item false early old = notes_next h.run.schedule i item (Early i) h.events early old

pub notes_turned : {I : Type 0} (shown : I → Option Stamped) (is_over is_waiting : I → Type 0) (released : I → I) (i : ℕ) (h : History) (x : Entry I) (answer : Taking) (new : History) (y : Entry I)
    → ((v : I) → shown (released v) ≡ None) → IsTurned shown is_over is_waiting released i h x answer new y → NotesAreOfShown h.run.schedule i (shown x.inlet) h.events → NotesAreOfShown h.run.schedule i (shown y.inlet) new.events
notes_turned {I} shown is_over is_waiting released i h x turn.Took new y clears (item, head, history, is) old =
    let s = h.run.schedule in
    let none : shown y.inlet ≡ None = ap (λ (v : Entry I). shown v.inlet) is ∙ clears x.inlet in
    let O : Option Stamped → Type 0 = λ o. NotesAreOfShown s i o h.events in
    let N : History × Option Stamped → Type 0 = λ v. NotesAreOfShown s i v.1 v.0.events in
    subst N (λ k. (sym history k, sym none k)) (notes_taken s i item h.events (subst O head old))
notes_turned {I} shown is_over is_waiting released i h x turn.HeldBack new y clears (item, head, (inl full), is) old =
    let s = h.run.schedule in
    let note = full.1 in
    let still : shown y.inlet ≡ Some item = ap (λ (v : Entry I). shown v.inlet) is ∙ head in
    let O : Option Stamped → Type 0 = λ o. NotesAreOfShown s i o h.events in
    let N : History × Option Stamped → Type 0 = λ v. NotesAreOfShown s i v.1 v.0.events in
    subst N (λ k. (sym note.3 k, sym still k)) (full_so h i item note.0 (full_noted i h.events) note.2 (subst O head old))
notes_turned {I} shown is_over is_waiting released i h x turn.HeldBack new y clears (item, head, (inr early), is) old =
    let s = h.run.schedule in
    let still : shown y.inlet ≡ Some item = ap (λ (v : Entry I). shown v.inlet) is ∙ head in
    let O : Option Stamped → Type 0 = λ o. NotesAreOfShown s i o h.events in
    let N : History × Option Stamped → Type 0 = λ v. NotesAreOfShown s i v.1 v.0.events in
    subst N (λ k. (sym early.1 k, sym still k)) (early_so h i item (early_noted i h.events) (early_of s h.events i item early.0) (subst O head old))
notes_turned {I} shown is_over is_waiting released i h x turn.Closed new y clears (why, history, is) old =
    let s = h.run.schedule in
    let still : shown y.inlet ≡ shown x.inlet = ap (λ (v : Entry I). shown v.inlet) is in
    let N : History × Option Stamped → Type 0 = λ v. NotesAreOfShown s i v.1 v.0.events in
    subst N (λ k. (sym history k, sym still k)) (notes_closed s i (shown x.inlet) h.events old)
notes_turned {I} shown is_over is_waiting released i h x turn.Waits new y clears (waits, none, history, is) old =
    let s = h.run.schedule in
    let still : shown y.inlet ≡ shown x.inlet = ap (λ (v : Entry I). shown v.inlet) is in
    let N : History × Option Stamped → Type 0 = λ v. NotesAreOfShown s i v.1 v.0.events in
    subst N (λ k. (sym history k, sym still k)) old

-- nothing happened, or an event of the input did
abbrev pub IsOneOf : ℕ → History → History → Type 0
IsOneOf i h new = (new ≡ h) ⊎ ((e : Event) × (new ≡ with_event h e) × IsOfInput i e)

full_one : (i : ℕ) (h new : History) (st : Stream) (b : Bool) → new ≡ cond b h (with_event h (Full i st)) → IsOneOf i h new
full_one i h new st true is = inl is
full_one i h new st false is = inr (Full i st, is, refl)

early_one : (i : ℕ) (h new : History) (b : Bool) → new ≡ cond b h (with_event h (Early i)) → IsOneOf i h new
early_one i h new true is = inl is
early_one i h new false is = inr (Early i, is, refl)

-- a packet is put off
pub put_off_one : (i : ℕ) (h new : History) (item : Stamped) → IsPutOff i h item new → IsOneOf i h new
put_off_one i h new item (inl full) = full_one i h new full.1.0 (full_noted i h.events) full.1.3
put_off_one i h new item (inr early) = early_one i h new (early_noted i h.events) early.1

pub turned_one : {I : Type 0} (shown : I → Option Stamped) (is_over is_waiting : I → Type 0) (released : I → I) (i : ℕ) (h : History) (x : Entry I) (answer : Taking) (new : History) (y : Entry I)
    → IsTurned shown is_over is_waiting released i h x answer new y → IsOneOf i h new
turned_one shown is_over is_waiting released i h x turn.Took new y (item, head, history, is) = inr (Took i item, history, refl)
turned_one shown is_over is_waiting released i h x turn.HeldBack new y (item, head, off, is) = put_off_one i h new item off
turned_one shown is_over is_waiting released i h x turn.Closed new y (why, history, is) = inr (Close i, history, refl)
turned_one shown is_over is_waiting released i h x turn.Waits new y (waits, none, history, is) = inl history
