-- Which events leave what is kept of an input.
use Rattle.std.proofs.Common.{ℕ, ◌≡◌, ◌≢◌, true, false, eq-eqb, if◌then◌else◌, ◌||◌, ◌∙◌, List, [], ◌∷◌, ◌++◌, length, slice_get, Some, zero, suc, refl, ap, sym}
use Rattle.std.proofs.lemmas.Bool.{ne_eqb, false≢true}
use Rattle.tspkt.specs.declared.stamped.Stamped.{Stamped}
use Rattle.request.specs.declared.stream.Stream.{Stream}
use Rattle.mux.specs.declared.content.Content.{Content}
use Rattle.mux.specs.declared.event.Event.{Event}
use Rattle.mux.specs.declared.event.Event.TheVariants.{Took, Full, Early, Close, Slot, Switch}
use Rattle.schedule.specs.Schedule.{ScheduleValue}
use Rattle.mux.specs.History.{taken, is_closed, last_stamp, emitted}
use Rattle.inlets.specs.Notes.{IsOfInput, is_note, NotesAreOfNext}

-- with this event behind these, nothing is other of the input
pub record Spares (j : ℕ) (h : List Event) (e : Event) : Type 0 where
  pub taken_is : taken j (e ∷ h) ≡ taken j h
  pub closed_is : is_closed j (e ∷ h) ≡ is_closed j h
  pub stamp_is : last_stamp j (e ∷ h) ≡ last_stamp j h
  pub unnoted : is_note j e ≡ false

pub slot_spares : (j : ℕ) (h : List Event) (c : Content) → Spares j h (Slot c)
slot_spares j h c = record { taken_is = refl; closed_is = refl; stamp_is = refl; unnoted = refl }

pub switch_spares : (j : ℕ) (h : List Event) (number : ℕ) → Spares j h (Switch number)
switch_spares j h number = record { taken_is = refl; closed_is = refl; stamp_is = refl; unnoted = refl }

pub took_spares : (i j : ℕ) (h : List Event) (item : Stamped) → j ≢ i → Spares j h (Took i item)
took_spares i j h item ne =
    let other = ne_eqb i j (λ same. ne (sym same)) in
    record {
      taken_is = ap (λ b. if b then taken j h ++ item ∷ [] else taken j h) other;
      closed_is = refl;
      stamp_is = ap (λ b. if b then item.stamp else last_stamp j h) other;
      unnoted = refl;
    }

pub full_spares : (i j : ℕ) (h : List Event) (su : Stream) → j ≢ i → Spares j h (Full i su)
full_spares i j h su ne = record { taken_is = refl; closed_is = refl; stamp_is = refl; unnoted = ne_eqb i j (λ same. ne (sym same)) }

pub early_spares : (i j : ℕ) (h : List Event) → j ≢ i → Spares j h (Early i)
early_spares i j h ne = record { taken_is = refl; closed_is = refl; stamp_is = refl; unnoted = ne_eqb i j (λ same. ne (sym same)) }

pub close_spares : (i j : ℕ) (h : List Event) → j ≢ i → Spares j h (Close i)
close_spares i j h ne = record {
  taken_is = refl;
  closed_is = ap (λ b. b || is_closed j h) (ne_eqb i j (λ same. ne (sym same)));
  stamp_is = refl;
  unnoted = refl;
}

pub of_input : (i j : ℕ) (e : Event) (h : List Event) → IsOfInput i e → j ≢ i → Spares j h e
of_input i j (Took k item) h is ne = took_spares k j h item (λ same. ne (same ∙ is))
of_input i j (Full k st) h is ne = full_spares k j h st (λ same. ne (same ∙ is))
of_input i j (Early k) h is ne = early_spares k j h (λ same. ne (same ∙ is))
of_input i j (Close k) h is ne = close_spares k j h (λ same. ne (same ∙ is))
of_input i j (Slot c) h is ne = absurd is
of_input i j (Switch number) h is ne = absurd is

-- an event of an input sends nothing
pub emitted_same : (p : ScheduleValue) (i : ℕ) (e : Event) (h : List Event) → IsOfInput i e → emitted p (e ∷ h) ≡ emitted p h
emitted_same p i (Took j item) h is = refl
emitted_same p i (Full j st) h is = refl
emitted_same p i (Early j) h is = refl
emitted_same p i (Switch number) h is = absurd is
emitted_same p i (Close j) h is = refl
emitted_same p i (Slot c) h is = absurd is

-- of an input itself

pub took_own : (i : ℕ) (h : List Event) (item : Stamped) → taken i (Took i item ∷ h) ≡ taken i h ++ item ∷ []
took_own i h item = ap (λ b. if b then taken i h ++ item ∷ [] else taken i h) (eq-eqb i i refl)

pub close_own : (i : ℕ) (h : List Event) → is_closed i (Close i ∷ h) ≡ true
close_own i h = ap (λ b. b || is_closed i h) (eq-eqb i i refl)

-- notes

pub notes_on : (s : ScheduleValue) (i : ℕ) (received : List Stamped) (h : List Event) (e : Event) → is_note i e ≡ false → NotesAreOfNext s i received h → NotesAreOfNext s i received (e ∷ h)
notes_on s i received h e unnoted old [] before note is noted = (let same : e ≡ note = cc in absurd (false≢true (sym unnoted ∙ (ap (is_note i) same ∙ noted))))
notes_on s i received h e unnoted old (a ∷ after) before note is noted = (let same : h ≡ after ++ note ∷ before = cc in old after before note same noted)

get_front : (xs ys : List Stamped) (k : ℕ) (item : Stamped) → slice_get xs k ≡ Some item → slice_get (xs ++ ys) k ≡ Some item
get_front [] ys k item e = absurd (cc)
get_front (x ∷ xs) ys zero item e = e
get_front (x ∷ xs) ys (suc k) item e = get_front xs ys k item e

pub get_behind : (xs : List Stamped) (item : Stamped) → slice_get (xs ++ item ∷ []) (length xs) ≡ Some item
get_behind [] item = refl
get_behind (x ∷ xs) item = get_behind xs item

pub notes_more : (s : ScheduleValue) (i : ℕ) (received more : List Stamped) (h : List Event) → NotesAreOfNext s i received h → NotesAreOfNext s i (received ++ more) h
notes_more s i received more h old after before e is noted = (let was = old after before e is noted in (was.0, get_front received more (length (taken i before)) was.0 was.1, was.2))
