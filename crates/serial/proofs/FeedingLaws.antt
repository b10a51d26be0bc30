-- What an input gives is what the multiplex may take.
use Rattle.std.proofs.Common.{ℕ, ◌<◌, ◌≤◌, ◌≡◌, Bool, true, false, nat_lt, eq-eqb, List, [], ◌∷◌, ◌++◌, length, Option, Some, None, if◌then◌else◌, ◌||◌, length-append, refl, ap, ◌∙◌, sym, subst, arith, inl, inr, append_assoc}
use Rattle.std.specs.Option.{option_to_list}
use Rattle.std.specs.Prelude.{IsSome, Result, Ok, Err, OnOk}
use Rattle.std.proofs.lemmas.Bool.{false≢true}
use Rattle.tspkt.specs.declared.framer.TheConstants.{MAX_LIMIT}
use Rattle.tspkt.specs.declared.stamped.Stamped.{Stamped}
use Rattle.request.specs.declared.stream.Stream.{Stream}
use Rattle.schedule.specs.Schedule.{ScheduleValue, slot_time}
use Rattle.mux.specs.declared.event.Event.{Event}
use Rattle.mux.specs.declared.event.Event.TheVariants.{Took, Full, Early, Close}
use Rattle.mux.specs.History.{History, with_event, slots, taken, last_stamp, is_closed, full_noted, early_noted, is_mapped_to}
use Rattle.mux.specs.Lawful.{is_early, is_ready}
use Rattle.reading.specs.Takeable.{OriginValue, framed_at, takeable, EndsAtTaken}
use Rattle.reading.specs.PacketReading.{HasLooked, ReadsOn, IsSpent, TellsFailures}
use Rattle.inlets.specs.Notes.{IsOfInput, IsNoted, NotesAreOfNext, NotesAreOfShown}
use Rattle.inlets.proofs.EventLaws.{of_input}
use Rattle.inlets.proofs.NoteLaws.{notes_taken, notes_next, notes_closed}
use Rattle.serial.specs.Feeding.{SerialInput, IsOrigin, HasGiven, IsOwnStop, Feeds, HasFed, FeedsOn, IsGivenOrHeld, turns_left}
use Rattle.reading.proofs.PacketLaws.{given_inside, released}
use Rattle.reading.proofs.KnownLaws.{consumes_on}
use Rattle.outcome.proofs.OrderLaws.{fewer_than_bytes}

-- What was given begins what can be taken of bytes that aren't too many.

abbrev pub IsInside : ScheduleValue → OriginValue → List Stamped → Type 0
IsInside schedule origin given = (inside : List ℕ) × (later : List Stamped) × (length inside ≤ MAX_LIMIT) × (given ++ later ≡ takeable schedule origin (framed_at origin inside))

pub few : (schedule : ScheduleValue) (o : OriginValue) (given : List Stamped) → IsInside schedule o given → length given ≤ MAX_LIMIT
few schedule o given is =
    let all = takeable schedule o (framed_at o is.0) in
    let most = fewer_than_bytes schedule o is.0 in
    let size = is.2 in
    let parts : length given ≤ length all = omega (arith, length-append given is.1, ap length is.3) in
    omega (arith, most, parts, size)

-- Events of one input are nothing to another.

pub taken_other : (i j : ℕ) (e : Event) (h : List Event) → IsOfInput i e → (i ≡ j → ⊥) → taken j (e ∷ h) ≡ taken j h
taken_other i j e h is ne = (of_input i j e h is (λ same. ne (sym same))).taken_is

-- An input that goes on.

pub given_on : {R : Type 0} (remaining : R → Option (List ℕ)) (p : ScheduleValue) (i : ℕ) (start : Option (List ℕ)) (old new : SerialInput R) (given : List Stamped)
    → HasGiven remaining p i start old given → ReadsOn remaining p old.inlet new.inlet → new.inlet.origin ≡ old.inlet.origin
    → new.inlet.stream.items.limit ≡ old.inlet.stream.items.limit → HasGiven remaining p i start new given
given_on remaining p i start old new given has reads origin limit =
    let b = has.read in
    let on = reads b.0 given b.2 in
    let P : OriginValue → Type 0 = IsOrigin p i in
    record {
      origin = subst P (sym origin) has.origin;
      limit = omega (arith, limit, has.limit);
      read = (b.0 ++ on.0, consumes_on start (remaining old.inlet.stream.source) (remaining new.inlet.stream.source) b.0 on.0 b.1 on.1, on.2);
    }

is_held : (held : Option Stamped) (item : Stamped) → held ≡ Some item → IsSome held
is_held held item e = subst IsSome (sym e) refl

-- what an input held was given, and nothing was looked at behind it
pub given_released : {R : Type 0} (remaining : R → Option (List ℕ)) (p : ScheduleValue) (i : ℕ) (start : Option (List ℕ)) (x : SerialInput R) (given : List Stamped) (item : Stamped)
    → x.inlet.held ≡ Some item → HasGiven remaining p i start x given
    → (now : HasGiven remaining p i start (record x { inlet = record x.inlet { held = None } }) (given ++ item ∷ [])) × EndsAtTaken p x.inlet.origin now.read.2.0
given_released remaining p i start x given item held has =
    let b = has.read in
    let r = x.inlet in
    let now = released remaining p r.origin r.stream r.held r.report b.0 given b.2.0 b.2.1 in
    let P : Option Stamped → Type 0 = λ o. HasLooked remaining p r.origin r.stream None r.report b.0 (given ++ option_to_list o) b.2.0 in
    (record { origin = has.origin; limit = has.limit; read = (b.0, b.1, (b.2.0, subst P held now)) }, b.2.1.ends (is_held x.inlet.held item held))

pub some_held : (held : Option Stamped) → IsSome held → (item : Stamped) × (held ≡ Some item)
some_held None some = let bad : false ≡ true = some in cc
some_held (Some item) some = (item, refl)

-- what was given isn't too much
pub inside_given : {R : Type 0} (remaining : R → Option (List ℕ)) (p : ScheduleValue) (i : ℕ) (start : Option (List ℕ)) (x : SerialInput R) (given : List Stamped)
    → HasGiven remaining p i start x given → IsInside p x.inlet.origin given
inside_given remaining p i start x given has =
    let b = has.read in
    let is = given_inside remaining p x.inlet b.0 given b.2 in
    let held = option_to_list x.inlet.held in
    (is.0, held ++ is.1, omega (arith, is.2, has.limit), sym (append_assoc given held is.1) ∙ is.3)

or_false : (a b : Bool) → a || b ≡ false → (a ≡ false) × (b ≡ false)
or_false true b e = cc
or_false false b e = (refl, e)

-- an input for which the multiplex waits is open, and nothing was noted of it
pub record IsWaitedFor (i : ℕ) (h : List Event) : Type 0 where
  pub open_ : is_closed i h ≡ false
  pub noted : (full_noted i h ≡ false) × (early_noted i h ≡ false)

pub waited_for : (s : ScheduleValue) (i : ℕ) (h : List Event) → is_ready s i h ≡ false → IsWaitedFor i h
waited_for s i h e =
    let late = nat_lt (slot_time s.first (slots h)) (last_stamp i h) in
    let parts = or_false ((is_closed i h || late) || full_noted i h) (early_noted i h) e in
    let three = or_false (is_closed i h || late) (full_noted i h) parts.0 in
    let two = or_false (is_closed i h) late three.0 in
    record { open_ = two.0; noted = (three.1, parts.1) }

-- one that feeds goes on, and has fed

pub has_fed : {R : Type 0} (remaining : R → Option (List ℕ)) (p : ScheduleValue) (h : List Event) (i : ℕ) (start : Option (List ℕ)) (x : SerialInput R) → Feeds remaining p h i start x → HasFed remaining p h i start x
has_fed remaining p h i start x f = record { given = f.given; closed = f.closed; over = f.over; notes = f.notes }

pub feeds_on : {R : Type 0} (remaining : R → Option (List ℕ)) (p : ScheduleValue) (h : List Event) (i : ℕ) (start : Option (List ℕ)) (x : SerialInput R) → Feeds remaining p h i start x → FeedsOn remaining p h i start x
feeds_on remaining p h i start x f = record { fed = has_fed remaining p h i start x f; own = f.own }

-- it is closed in the multiplex, where nothing is left of it
pub feeds_closed : {R : Type 0} (remaining : R → Option (List ℕ)) (p : ScheduleValue) (h : List Event) (i : ℕ) (start : Option (List ℕ)) (x : SerialInput R)
    → HasGiven remaining p i start x (taken i h) → IsSpent x.inlet → IsOwnStop x.inlet.report.stopped → NotesAreOfShown p i x.inlet.held h → Feeds remaining p (Close i ∷ h) i start (record x { is_closed = true })
feeds_closed remaining p h i start x has done own notes = record {
  given = record { origin = has.origin; limit = has.limit; read = has.read };
  closed = sym (ap (λ b. b || is_closed i h) (eq-eqb i i refl));
  over = λ e. record { framer = done.framer; ahead = done.ahead; held = done.held };
  own = own;
  stands = λ e. absurd (false≢true (sym e));
  notes = notes_closed p i x.inlet.held h notes;
}

-- the packet that it held is taken
feeds_taken : {R : Type 0} (remaining : R → Option (List ℕ)) (p : ScheduleValue) (h : List Event) (i : ℕ) (start : Option (List ℕ)) (x : SerialInput R) (item : Stamped)
    → x.inlet.held ≡ Some item → HasGiven remaining p i start x (taken i h) → is_closed i h ≡ false → x.is_closed ≡ is_closed i h → IsOwnStop x.inlet.report.stopped → NotesAreOfShown p i (Some item) h
    → Feeds remaining p (Took i item ∷ h) i start (record x { inlet = record x.inlet { held = None } })
feeds_taken remaining p h i start x item held has opened closed own notes =
    let after = record x { inlet = record x.inlet { held = None } } in
    let P : List Stamped → Type 0 = λ xs. (g : HasGiven remaining p i start after xs) × EndsAtTaken p x.inlet.origin g.read.2.0 in
    let now : taken i (Took i item ∷ h) ≡ taken i h ++ item ∷ [] = ap (λ b. if b then taken i h ++ item ∷ [] else taken i h) (eq-eqb i i refl) in
    let given = subst P (sym now) (given_released remaining p i start x (taken i h) item held has) in
    record {
      given = given.0;
      closed = closed;
      over = λ e. absurd (false≢true (sym opened ∙ sym closed ∙ e));
      own = own;
      stands = λ e. given.1;
      notes = notes_taken p i item h notes;
    }

-- it is still held
feeds_noted : {R : Type 0} (remaining : R → Option (List ℕ)) (p : ScheduleValue) (h : List Event) (i : ℕ) (start : Option (List ℕ)) (x : SerialInput R) (item : Stamped) (e : Event)
    → taken i (e ∷ h) ≡ taken i h → is_closed i (e ∷ h) ≡ is_closed i h → IsNoted p i e h item → x.inlet.held ≡ Some item → HasGiven remaining p i start x (taken i h) → is_closed i h ≡ false → x.is_closed ≡ is_closed i h
    → IsOwnStop x.inlet.report.stopped → NotesAreOfShown p i (Some item) h → Feeds remaining p (e ∷ h) i start x
feeds_noted remaining p h i start x item e taken_is closed_is tells held has opened closed own notes =
    let P : List Stamped → Type 0 = λ xs. (g : HasGiven remaining p i start x xs) × EndsAtTaken p x.inlet.origin g.read.2.0 in
    let given = subst P (sym taken_is) (has, has.read.2.1.ends (is_held x.inlet.held item held)) in
    let N : List Stamped × Option Stamped → Type 0 = λ v. NotesAreOfNext p i (v.0 ++ option_to_list v.1) (e ∷ h) in
    record {
      given = given.0;
      closed = closed ∙ sym closed_is;
      over = λ shut. absurd (false≢true (sym opened ∙ sym closed ∙ shut));
      own = own;
      stands = λ shut. given.1;
      notes = subst N (λ k. (sym taken_is k, sym held k)) (notes_next p i item e h tells notes);
    }

pub feeds_given : {R : Type 0} (remaining : R → Option (List ℕ)) (p : ScheduleValue) (before after : History) (i : ℕ) (start : Option (List ℕ)) (x y : SerialInput R) (item : Stamped)
    → IsGivenOrHeld before after i x y item → x.inlet.held ≡ Some item → HasGiven remaining p i start x (taken i before.events) → is_closed i before.events ≡ false
    → x.is_closed ≡ is_closed i before.events → IsOwnStop x.inlet.report.stopped → NotesAreOfShown p i x.inlet.held before.events → p ≡ before.run.schedule → Feeds remaining p after.events i start y
feeds_given remaining p before after i start x y item (inl is) held has opened closed own notes same =
    let P : History → Type 0 = λ v. Feeds remaining p v.events i start y in
    let Q : SerialInput _ → Type 0 = Feeds remaining p (Took i item ∷ before.events) i start in
    let O : Option Stamped → Type 0 = λ o. NotesAreOfShown p i o before.events in
    subst P (sym is.0) (subst Q (sym is.1) (feeds_taken remaining p before.events i start x item held has opened closed own (subst O held notes)))
feeds_given remaining p before after i start x y item (inr (inl is)) held has opened closed own notes same =
    let P : History → Type 0 = λ v. Feeds remaining p v.events i start y in
    let Q : SerialInput _ → Type 0 = Feeds remaining p (Full i is.0 ∷ before.events) i start in
    let O : Option Stamped → Type 0 = λ o. NotesAreOfShown p i o before.events in
    let M : ScheduleValue → Type 0 = λ v. is_mapped_to v is.0 i item ≡ true in
    subst P (sym is.1) (subst Q (sym is.2) (feeds_noted remaining p before.events i start x item (Full i is.0) refl refl (subst M (sym same) is.3) held has opened closed own (subst O held notes)))
feeds_given remaining p before after i start x y item (inr (inr is)) held has opened closed own notes same =
    let P : History → Type 0 = λ v. Feeds remaining p v.events i start y in
    let Q : SerialInput _ → Type 0 = Feeds remaining p (Early i ∷ before.events) i start in
    let O : Option Stamped → Type 0 = λ o. NotesAreOfShown p i o before.events in
    let M : ScheduleValue → Type 0 = λ v. is_early v before.events item ≡ true in
    subst P (sym is.0) (subst Q (sym is.1) (feeds_noted remaining p before.events i start x item (Early i) refl refl (subst M (sym same) is.2) held has opened closed own (subst O held notes)))

-- it is an event of the input, which has the limit and the failures that it had

pub given_event : {R : Type 0} (before after : History) (i : ℕ) (x y : SerialInput R) (item : Stamped) → IsGivenOrHeld before after i x y item
    → (e : Event) × (after ≡ with_event before e) × IsOfInput i e
given_event before after i x y item (inl is) = (Took i item, is.0, refl)
given_event before after i x y item (inr (inl is)) = (Full i is.0, is.1, refl)
given_event before after i x y item (inr (inr is)) = (Early i, is.0, refl)

pub given_limit : {R : Type 0} (before after : History) (i : ℕ) (x y : SerialInput R) (item : Stamped) → IsGivenOrHeld before after i x y item
    → y.inlet.stream.items.limit ≡ x.inlet.stream.items.limit
given_limit before after i x y item (inl is) = ap (λ (v : SerialInput _). v.inlet.stream.items.limit) is.1
given_limit before after i x y item (inr (inl is)) = ap (λ (v : SerialInput _). v.inlet.stream.items.limit) is.2
given_limit before after i x y item (inr (inr is)) = ap (λ (v : SerialInput _). v.inlet.stream.items.limit) is.1

pub given_source : {R : Type 0} (before after : History) (i : ℕ) (x y : SerialInput R) (item : Stamped) → IsGivenOrHeld before after i x y item → y.inlet.stream.source ≡ x.inlet.stream.source
given_source before after i x y item (inl is) = ap (λ (v : SerialInput _). v.inlet.stream.source) is.1
given_source before after i x y item (inr (inl is)) = ap (λ (v : SerialInput _). v.inlet.stream.source) is.2
given_source before after i x y item (inr (inr is)) = ap (λ (v : SerialInput _). v.inlet.stream.source) is.1

pub given_failures : {R : Type 0} (failures : R → ℕ) (count : ℕ) (before after : History) (i : ℕ) (x y : SerialInput R) (item : Stamped) → IsGivenOrHeld before after i x y item
    → TellsFailures failures count x.inlet → TellsFailures failures count y.inlet
given_failures failures count before after i x y item (inl is) tells =
    let P : SerialInput _ → Type 0 = λ v. TellsFailures failures count v.inlet in
    subst P (sym is.1) (record { unfailed = tells.unfailed; told = tells.told; untold = tells.untold })
given_failures failures count before after i x y item (inr (inl is)) tells =
    let P : SerialInput _ → Type 0 = λ v. TellsFailures failures count v.inlet in
    subst P (sym is.2) tells
given_failures failures count before after i x y item (inr (inr is)) tells =
    let P : SerialInput _ → Type 0 = λ v. TellsFailures failures count v.inlet in
    subst P (sym is.1) tells

-- there is a turn less

fewer_taken : (i : ℕ) (item : Stamped) (h : List Event) → length (taken i h ++ item ∷ []) ≤ MAX_LIMIT → turns_left i (Took i item ∷ h) < turns_left i h
fewer_taken i item h within = rw (eq-eqb i i refl) (let l = length-append (taken i h) (item ∷ []) in omega (arith, within, l))

fewer_noted : (i : ℕ) (st : Stream) (h : List Event) → full_noted i h ≡ false → turns_left i (Full i st ∷ h) < turns_left i h
fewer_noted i st h none = rw (eq-eqb i i refl, none) (omega arith)

fewer_early : (i : ℕ) (h : List Event) → early_noted i h ≡ false → turns_left i (Early i ∷ h) < turns_left i h
fewer_early i h none = rw (eq-eqb i i refl, none) (omega arith)

pub fewer_closed : (i : ℕ) (h : List Event) → is_closed i h ≡ false → turns_left i (Close i ∷ h) < turns_left i h
fewer_closed i h opened = rw (eq-eqb i i refl, opened) (omega arith)

pub fewer : {R : Type 0} (before after : History) (i : ℕ) (x y : SerialInput R) (item : Stamped) → IsGivenOrHeld before after i x y item
    → length (taken i before.events ++ item ∷ []) ≤ MAX_LIMIT → (full_noted i before.events ≡ false) × (early_noted i before.events ≡ false) → turns_left i after.events < turns_left i before.events
fewer before after i x y item (inl is) within none =
    let P : History → Type 0 = λ v. turns_left i v.events < turns_left i before.events in
    subst P (sym is.0) (fewer_taken i item before.events within)
fewer before after i x y item (inr (inl is)) within none =
    let P : History → Type 0 = λ v. turns_left i v.events < turns_left i before.events in
    subst P (sym is.1) (fewer_noted i is.0 before.events none.0)
fewer before after i x y item (inr (inr is)) within none =
    let P : History → Type 0 = λ v. turns_left i v.events < turns_left i before.events in
    subst P (sym is.0) (fewer_early i before.events none.1)

pub few_given : {R : Type 0} (remaining : R → Option (List ℕ)) (p : ScheduleValue) (i : ℕ) (start : Option (List ℕ)) (x : SerialInput R) (given : List Stamped)
    → HasGiven remaining p i start x given → length given ≤ MAX_LIMIT
few_given remaining p i start x given has = few p x.inlet.origin given (inside_given remaining p i start x given has)

-- from two clauses of a result
pub on_ok_two : {T E P Q S : Type 0} (r : Result T E) → OnOk r P → OnOk r Q → (P → Q → S) → OnOk r S
on_ok_two (Ok x) p q f = f p q
on_ok_two (Err e) p q f = tt
