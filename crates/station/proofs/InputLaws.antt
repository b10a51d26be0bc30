-- What a station keeps of its inputs, from event to event.
use Rattle.std.proofs.Common.{ℕ, ◌≡◌, ◌<◌, Bool, true, false, cond, List, [], ◌∷◌, ◌++◌, Option, Some, None, refl, ap, sym, subst, ◌∙◌, inl, inr, append-nil}
use Rattle.std.specs.Option.{option_to_list}
use Rattle.std.proofs.lemmas.Bool.{false≢true}
use Rattle.tspkt.specs.declared.stamped.Stamped.{Stamped}
use Rattle.request.specs.declared.stream.Stream.{Stream}
use Rattle.mux.specs.declared.event.Event.{Event}
use Rattle.mux.specs.declared.event.Event.TheVariants.{Took, Full, Early, Close}
use Rattle.mux.specs.History.{History, with_event, taken, is_closed, full_noted, early_noted, is_mapped_to}
use Rattle.mux.specs.Lawful.{is_early}
use Rattle.mux.proofs.Refusals.{early_of}
use Rattle.inlets.specs.Notes.{IsNoted, NotesAreOfNext, NotesAreOfShown}
use Rattle.inlets.specs.Turns.{IsRefusedForGood}
use Rattle.inlets.proofs.EventLaws.{Spares, of_input, took_own, close_own}
use Rattle.inlets.proofs.NoteLaws.{IsOneOf, notes_shown, notes_taken, notes_next, notes_closed, notes_spared}
use Rattle.station.specs.Stations.{Input, IsLawfulInput, LeavesOthers}
use Rattle.station.specs.Moving.{IsHeldBack}

-- events of others

pub spared : (h : History) (e : Event) (j : ℕ) (x : Input) → Spares j h.events e → IsLawfulInput h j x → IsLawfulInput (with_event h e) j x
spared h e j x s old = record {
  received = old.received ∙ ap (λ (xs : List Stamped). xs ++ option_to_list x.inlet.head) (sym s.taken_is);
  notes = notes_spared h.run.schedule j x.inlet.head h.events e s old.notes;
  closed = old.closed ∙ sym s.closed_is;
  closes = λ is.
      elim (old.closes is) [
        | inl done ↦ inl done
        | inr bad ↦ inr (bad.0, bad.1, refused_still h e j bad.0 s bad.2)
      ];
} where
  refused_still : (h : History) (e : Event) (j : ℕ) (item : Stamped) → Spares j h.events e → IsRefusedForGood h j item → IsRefusedForGood (with_event h e) j item
  refused_still h e j item s (inl unmapped) = inl unmapped
  refused_still h e j item s (inr back) = inr (let P : ℕ → Type 0 = λ n. item.stamp < n in subst P (sym s.stamp_is) back)

pub others_stay : (i : ℕ) (h : History) → LeavesOthers i h h
others_stay i h j x ne old = old

pub others_one : (i : ℕ) (h new : History) → IsOneOf i h new → LeavesOthers i h new
others_one i h new (inl same) j x ne old = (let P : History → Type 0 = λ v. IsLawfulInput v j x in subst P (sym same) old)
others_one i h new (inr one) j x ne old =
    let P : History → Type 0 = λ v. IsLawfulInput v j x in
    subst P (sym one.1) (spared h one.0 j x (of_input i j one.0 h.events one.2 ne) old)

pub others_others : (i : ℕ) (a b c : History) → LeavesOthers i a b → LeavesOthers i b c → LeavesOthers i a c
others_others i a b c u v j x ne old = v j x ne (u j x ne old)

-- events of the input itself

-- a packet came out of the ring
pub came : (h : History) (i : ℕ) (x : Input) (item : Stamped) → x.inlet.head ≡ None → x.is_closed ≡ false → IsLawfulInput h i x
    → IsLawfulInput h i (record x { inlet = record x.inlet { received = x.inlet.received ++ item ∷ []; head = Some item } })
came h i x item none opened old =
    let all : x.inlet.received ≡ taken i h.events = old.received ∙ (ap (λ (o : Option Stamped). taken i h.events ++ option_to_list o) none ∙ append-nil (taken i h.events)) in
    let O : Option Stamped → Type 0 = λ o. NotesAreOfShown h.run.schedule i o h.events in
    record {
      received = ap (λ (xs : List Stamped). xs ++ item ∷ []) all;
      notes = notes_shown h.run.schedule i item h.events (subst O none old.notes);
      closed = old.closed;
      closes = λ is. absurd (false≢true (sym opened ∙ is));
    }

-- the packet that is shown is taken
pub took : (h : History) (i : ℕ) (x : Input) (item : Stamped) → x.inlet.head ≡ Some item → x.is_closed ≡ false → IsLawfulInput h i x
    → IsLawfulInput (with_event h (Took i item)) i (record x { inlet = record x.inlet { head = None } })
took h i x item held opened old =
    let O : Option Stamped → Type 0 = λ o. NotesAreOfShown h.run.schedule i o h.events in
    record {
      received = old.received ∙ (ap (λ (o : Option Stamped). taken i h.events ++ option_to_list o) held ∙ (sym (took_own i h.events item) ∙ sym (append-nil (taken i (Took i item ∷ h.events)))));
      notes = notes_taken h.run.schedule i item h.events (subst O held old.notes);
      closed = old.closed;
      closes = λ is. absurd (false≢true (sym opened ∙ is));
    }

-- with this event behind these, nothing is other of what was taken of the input, and it isn't closed
record Spared (i : ℕ) (h : List Event) (e : Event) : Type 0 where
  taken_is : taken i (e ∷ h) ≡ taken i h
  closed_is : is_closed i (e ∷ h) ≡ is_closed i h

-- a note leaves all else of the input
noted_one : (h : History) (i : ℕ) (x : Input) (item : Stamped) (e : Event) → Spared i h.events e → x.inlet.head ≡ Some item → x.is_closed ≡ false → IsNoted h.run.schedule i e h.events item → IsLawfulInput h i x
    → IsLawfulInput (with_event h e) i x
noted_one h i x item e stays held opened tells old =
    let O : Option Stamped → Type 0 = λ o. NotesAreOfShown h.run.schedule i o h.events in
    let N : List Stamped × Option Stamped → Type 0 = λ v. NotesAreOfNext h.run.schedule i (v.0 ++ option_to_list v.1) (e ∷ h.events) in
    record {
      received = old.received ∙ ap (λ (xs : List Stamped). xs ++ option_to_list x.inlet.head) (sym stays.taken_is);
      notes = subst N (λ k. (sym stays.taken_is k, sym held k)) (notes_next h.run.schedule i item e h.events tells (subst O held old.notes));
      closed = old.closed ∙ sym stays.closed_is;
      closes = λ is. absurd (false≢true (sym opened ∙ is));
    }

noted_so : (h : History) (i : ℕ) (x : Input) (item : Stamped) (st : Stream) (b : Bool) → x.inlet.head ≡ Some item → x.is_closed ≡ false → is_mapped_to h.run.schedule st i item ≡ true → IsLawfulInput h i x
    → IsLawfulInput (cond b h (with_event h (Full i st))) i x
noted_so h i x item st true held opened mapped old = old
noted_so h i x item st false held opened mapped old = noted_one h i x item (Full i st) (record { taken_is = refl; closed_is = refl }) held opened mapped old

early_so : (h : History) (i : ℕ) (x : Input) (item : Stamped) (b : Bool) → x.inlet.head ≡ Some item → x.is_closed ≡ false → is_early h.run.schedule h.events item ≡ true → IsLawfulInput h i x
    → IsLawfulInput (cond b h (with_event h (Early i))) i x
early_so h i x item true held opened early old = old
early_so h i x item false held opened early old = noted_one h i x item (Early i) (record { taken_is = refl; closed_is = refl }) held opened early old

-- the packet that is shown is held back
pub held : (h : History) (i : ℕ) (x : Input) (item : Stamped) (new : History) → x.inlet.head ≡ Some item → x.is_closed ≡ false → IsHeldBack i h item new false → IsLawfulInput h i x → IsLawfulInput new i x
held h i x item new is opened (inl full) old =
    let note = full.1 in
    let P : History → Type 0 = λ v. IsLawfulInput v i x in
    subst P (sym note.3) (noted_so h i x item note.0 (full_noted i h.events) is opened note.2 old)
held h i x item new is opened (inr early) old =
    let P : History → Type 0 = λ v. IsLawfulInput v i x in
    subst P (sym early.1) (early_so h i x item (early_noted i h.events) is opened (early_of h.run.schedule h.events i item early.0) old)

-- the end mark came
pub ended : (h : History) (i : ℕ) (x : Input) → x.inlet.head ≡ None → IsLawfulInput h i x
    → IsLawfulInput (with_event h (Close i)) i (record { inlet = record x.inlet { is_ended = true }; is_closed = true })
ended h i x none old = record {
  received = old.received;
  notes = notes_closed h.run.schedule i x.inlet.head h.events old.notes;
  closed = sym (close_own i h.events);
  closes = λ is. inl (refl, none);
}

-- the packet that is shown can never be taken
pub refused : (h : History) (i : ℕ) (x : Input) (item : Stamped) → x.inlet.head ≡ Some item → IsRefusedForGood h i item → IsLawfulInput h i x
    → IsLawfulInput (with_event h (Close i)) i (record x { is_closed = true })
refused h i x item held bad old = record {
  received = old.received;
  notes = notes_closed h.run.schedule i x.inlet.head h.events old.notes;
  closed = sym (close_own i h.events);
  closes = λ is. inr (item, held, bad);
}
