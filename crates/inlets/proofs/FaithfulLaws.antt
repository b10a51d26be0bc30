-- A lawful history takes its inputs' packets in their order, where what it took of each begins what the input gives.
use Rattle.std.proofs.Common.{◌≡◌, ℕ, zero, suc, ◌<◌, ◌≤◌, Bool, true, false, ◌==◌, ◌||◌, if◌then◌else◌, eq-eqb, List, [], ◌∷◌, ◌++◌, length, Some, refl, ap, ◌∙◌, sym, subst, inl, inr, append_assoc, arith}
use Rattle.std.specs.List.{slice_get}
use Rattle.std.proofs.lemmas.Bool.{cases_Bool, cases_lt, false≢true}
use Rattle.std.proofs.lemmas.Bool.Decides.{nat_tests}
use Rattle.std.proofs.lemmas.List.{append-nil}
use Rattle.std.proofs.lemmas.Option.{none-some, same_Some}
use Rattle.tspkt.specs.declared.stamped.Stamped.{Stamped}
use Rattle.schedule.specs.Schedule.{ScheduleValue}
use Rattle.mux.specs.declared.event.Event.{Event}
use Rattle.mux.specs.declared.event.Event.TheVariants.{Took, Full, Early, Close, Slot, Switch}
use Rattle.mux.specs.History.{taken, is_closed}
use Rattle.schedule.specs.Laws.{IsMultiplexSchedule}
use Rattle.mux.specs.Lawful.{IsLawful, Closed, input_count}
use Rattle.mux.proofs.Plans.{stream_in}
use Rattle.mux.proofs.Force.{has_in_force}
use Rattle.mux.specs.Faithful.{PacketLists, IsNext, IsFaithful, IsPrefix}
use Rattle.mux.proofs.Refusals.{is_closed_first}
use Rattle.inlets.specs.Notes.{is_note, IsNoted, NotesAreOfNext}
use Rattle.inlets.proofs.EventLaws.{took_spares}

-- what was noted was noted of the packet that came next
abbrev NotesAreNext : ScheduleValue → PacketLists → List Event → Type 0
NotesAreNext s lists h =
    (after before : List Event) (i : ℕ) (e : Event) → h ≡ after ++ e ∷ before → is_note i e ≡ true
    → (item : Stamped) × IsNext lists i before item × IsNoted s i e before item

notes_before : (s : ScheduleValue) (lists : PacketLists) (e : Event) (before : List Event) → NotesAreNext s lists (e ∷ before) → NotesAreNext s lists before
notes_before s lists e before notes after earlier i note same = notes (e ∷ after) earlier i note (ap (λ v. e ∷ v) same)

one_less : (b : Bool) (given list : List Stamped) (item : Stamped) → IsPrefix (if b then given ++ item ∷ [] else given) list → IsPrefix given list
one_less true given list item is = (item ∷ is.0, is.1 ∙ append_assoc given (item ∷ []) is.0)
one_less false given list item is = is

-- of a closed input nothing is taken
other_than_closed : (s : ScheduleValue) (before : List Event) (i j : ℕ) (item : Stamped) (b : Bool) → (i == j) ≡ b → (b ≡ true → i ≡ j) → IsLawful s (Took i item ∷ before) → is_closed j before ≡ true
    → (if b then taken j before ++ item ∷ [] else taken j before) ≡ taken j before
other_than_closed s before i j item true is same lawful shut =
    let P : ℕ → Type 0 = λ n. is_closed n before ≡ true in
    absurd (none-some Closed (sym lawful.1.unrefused ∙ is_closed_first s before i item (subst P (sym (same refl)) shut)))
other_than_closed s before i j item false is same lawful shut = refl

or_true : (a b : Bool) → b ≡ true → a || b ≡ true
or_true true b e = refl
or_true false b e = e

pub same_number : (i j : ℕ) → (i == j) ≡ true → i ≡ j
same_number i j e = grind (arith, nat_tests)

-- all that is taken begins the lists, and a closed input's list was taken
faithful_of : (s : ScheduleValue) (lists : PacketLists) (h : List Event) → IsLawful s h → ((i : ℕ) → IsPrefix (taken i h) (lists i)) → NotesAreNext s lists h → ((i : ℕ) → is_closed i h ≡ true → lists i ≡ taken i h)
    → IsFaithful s lists h
faithful_of s lists [] lawful begins notes closed = tt
faithful_of s lists (Took i item ∷ before) lawful begins notes closed =
    let b = begins i in
    let now : taken i (Took i item ∷ before) ≡ taken i before ++ item ∷ [] = ap (λ v. if v then taken i before ++ item ∷ [] else taken i before) (eq-eqb i i refl) in (
      faithful_of s lists before lawful.0 (λ j. one_less (i == j) (taken j before) (lists j) item (begins j)) (notes_before s lists (Took i item) before notes)
          (λ j shut. closed j shut ∙ other_than_closed s before i j item (i == j) refl (λ e. same_number i j e) lawful shut),
      (b.0, b.1 ∙ (ap (λ v. v ++ b.0) now ∙ append_assoc (taken i before) (item ∷ []) b.0)),
    )
faithful_of s lists (Full i st ∷ before) lawful begins notes closed = (
  faithful_of s lists before lawful.0 begins (notes_before s lists (Full i st) before notes) closed,
  notes [] before i (Full i st) refl (eq-eqb i i refl),
)
faithful_of s lists (Early i ∷ before) lawful begins notes closed = (
  faithful_of s lists before lawful.0 begins (notes_before s lists (Early i) before notes) closed,
  notes [] before i (Early i) refl (eq-eqb i i refl),
)
faithful_of s lists (Switch number ∷ before) lawful begins notes closed = faithful_of s lists before lawful.0 begins (notes_before s lists (Switch number) before notes) closed
faithful_of s lists (Close i ∷ before) lawful begins notes closed = (
  faithful_of s lists before lawful.0 begins (notes_before s lists (Close i) before notes) (λ j shut. closed j (or_true (i == j) (is_closed j before) shut)),
  closed i (ap (λ v. v || is_closed i before) (eq-eqb i i refl)),
)
faithful_of s lists (Slot c ∷ before) lawful begins notes closed = faithful_of s lists before lawful.0 begins (notes_before s lists (Slot c) before notes) closed

-- A lawful history speaks of the schedule's inputs alone.

taken_within : (s : ScheduleValue) (h : List Event) (i : ℕ) → IsLawful s h → input_count s ≤ i → taken i h ≡ []
taken_within s [] i lawful past = refl
taken_within s (Took j item ∷ before) i lawful past =
    let inside = lawful.1.input in
    (took_spares j i before item (λ same. absurd (omega (arith, inside, same, past)))).taken_is ∙ taken_within s before i lawful.0 past
taken_within s (Full j st ∷ before) i lawful past = taken_within s before i lawful.0 past
taken_within s (Early j ∷ before) i lawful past = taken_within s before i lawful.0 past
taken_within s (Switch number ∷ before) i lawful past = taken_within s before i lawful.0 past
taken_within s (Close j ∷ before) i lawful past = taken_within s before i lawful.0 past
taken_within s (Slot c ∷ before) i lawful past = taken_within s before i lawful.0 past

closed_within : (s : ScheduleValue) (h : List Event) (i : ℕ) → IsLawful s h → is_closed i h ≡ true → i < input_count s
closed_within s [] i lawful shut = absurd (false≢true shut)
closed_within s (Took j item ∷ before) i lawful shut = closed_within s before i lawful.0 shut
closed_within s (Full j st ∷ before) i lawful shut = closed_within s before i lawful.0 shut
closed_within s (Early j ∷ before) i lawful shut = closed_within s before i lawful.0 shut
closed_within s (Switch number ∷ before) i lawful shut = closed_within s before i lawful.0 shut
closed_within s (Close j ∷ before) i lawful shut =
    elim (cases_Bool (j == i)) [
      | inl same ↦ (let inside = lawful.1.input in let number = same_number j i same in omega (arith, inside, number))
      | inr other ↦ closed_within s before i lawful.0 (ap (λ v. v || is_closed i before) (sym other) ∙ shut)
    ]
closed_within s (Slot c ∷ before) i lawful shut = closed_within s before i lawful.0 shut

note_of : (s : ScheduleValue) (e : Event) (before : List Event) (i : ℕ) → IsMultiplexSchedule s → IsLawful s (e ∷ before) → is_note i e ≡ true → i < input_count s
note_of s (Took j item) before i ok lawful noted = absurd (false≢true noted)
note_of s (Close j) before i ok lawful noted = absurd (false≢true noted)
note_of s (Slot c) before i ok lawful noted = absurd (false≢true noted)
note_of s (Switch number) before i ok lawful noted = absurd (false≢true noted)
note_of s (Early j) before i ok lawful noted = (let inside = lawful.1.input in omega (arith, inside, same_number j i noted))
note_of s (Full j st) before i ok lawful noted =
    let has = has_in_force s before st ok lawful.0 lawful.1.stream in
    let inside = (stream_in s has.0 st ok has.1).input in
    omega (arith, inside, lawful.1.input, same_number j i noted)

note_within : (s : ScheduleValue) (after before : List Event) (i : ℕ) (e : Event) → IsMultiplexSchedule s → IsLawful s (after ++ e ∷ before) → is_note i e ≡ true → i < input_count s
note_within s [] before i e ok lawful noted = note_of s e before i ok lawful noted
note_within s (a ∷ after) before i e ok lawful noted = note_within s after before i e ok lawful.0 noted

-- What was noted of the packet at that place of what came was noted of the next of the list.

taken_before : (after : List Event) (e : Event) (before : List Event) (i : ℕ) → IsPrefix (taken i before) (taken i (after ++ e ∷ before))
taken_before [] (Took j item) before i = elim (j == i) as (λ b. IsPrefix (taken i before) (if b then taken i before ++ item ∷ [] else taken i before)) [ true ↦ (item ∷ [], refl) | false ↦ ([], sym (append-nil (taken i before))) ]
taken_before [] (Full j st) before i = ([], sym (append-nil (taken i before)))
taken_before [] (Early j) before i = ([], sym (append-nil (taken i before)))
taken_before [] (Switch number) before i = ([], sym (append-nil (taken i before)))
taken_before [] (Close j) before i = ([], sym (append-nil (taken i before)))
taken_before [] (Slot c) before i = ([], sym (append-nil (taken i before)))
taken_before (Took j item ∷ after) e before i =
    let rest = taken_before after e before i in
    let now = taken i (after ++ e ∷ before) in
    elim (j == i) as (λ b. IsPrefix (taken i before) (if b then now ++ item ∷ [] else now)) [
      | true ↦ (rest.0 ++ item ∷ [], ap (λ v. v ++ item ∷ []) rest.1 ∙ append_assoc (taken i before) rest.0 (item ∷ []))
      | false ↦ rest
    ]
taken_before (Full j st ∷ after) e before i = taken_before after e before i
taken_before (Early j ∷ after) e before i = taken_before after e before i
taken_before (Switch number ∷ after) e before i = taken_before after e before i
taken_before (Close j ∷ after) e before i = taken_before after e before i
taken_before (Slot c ∷ after) e before i = taken_before after e before i

pub prefix_on : {X : Type 0} (xs ys zs : List X) → IsPrefix xs ys → IsPrefix ys zs → IsPrefix xs zs
prefix_on xs ys zs a b = (a.0 ++ b.0, b.1 ∙ ap (λ v. v ++ b.0) a.1 ∙ append_assoc xs a.0 b.0)

split_behind : {X : Type 0} (xs rest : List X) (x : X) → slice_get (xs ++ rest) (length xs) ≡ Some x → (more : List X) × (rest ≡ x ∷ more)
split_behind [] [] x at = absurd (none-some x at)
split_behind [] (y ∷ rest) x at = (rest, ap (λ v. v ∷ rest) (same_Some y x at))
split_behind (y ∷ xs) rest x at = split_behind xs rest x at

get_of_front : {X : Type 0} (xs rest : List X) (k : ℕ) (x : X) → slice_get xs k ≡ Some x → slice_get (xs ++ rest) k ≡ Some x
get_of_front [] rest k x at = absurd (none-some x at)
get_of_front (y ∷ xs) rest zero x at = at
get_of_front (y ∷ xs) rest (suc k) x at = get_of_front xs rest k x at

-- what was noted of the packets that came is noted of a list that they begin
pub notes_of_list : (s : ScheduleValue) (i : ℕ) (received list : List Stamped) (h : List Event) → IsPrefix received list → NotesAreOfNext s i received h → NotesAreOfNext s i list h
notes_of_list s i received list h begins notes after before e same noted =
    let was = notes after before e same noted in
    (was.0, ap (λ v. slice_get v (length (taken i before))) begins.1 ∙ get_of_front received begins.0 (length (taken i before)) was.0 was.1, was.2)

next_of_list : (s : ScheduleValue) (i : ℕ) (list : List Stamped) (h after before : List Event) (e : Event) → IsPrefix (taken i h) list → NotesAreOfNext s i list h → h ≡ after ++ e ∷ before → is_note i e ≡ true
    → (item : Stamped) × ((rest : List Stamped) × (list ≡ taken i before ++ item ∷ rest)) × IsNoted s i e before item
next_of_list s i list h after before e begins notes same noted =
    let was = notes after before e same noted in
    let P : List Event → Type 0 = λ v. IsPrefix (taken i before) (taken i v) in
    let front = prefix_on (taken i before) (taken i h) list (subst P (sym same) (taken_before after e before i)) begins in
    let rest = split_behind (taken i before) front.0 was.0 (ap (λ v. slice_get v (length (taken i before))) (sym front.1) ∙ was.1) in
    (was.0, (rest.0, front.1 ∙ ap (λ v. taken i before ++ v) rest.1), was.2)

-- What the history took of input i begins these packets, it noted nothing but of the next of them, and it closed the input
-- once it had taken them all.
pub record IsTakenOf (s : ScheduleValue) (h : List Event) (i : ℕ) (packets : List Stamped) : Type 0 where
  pub begins : IsPrefix (taken i h) packets
  pub notes : NotesAreOfNext s i packets h
  pub closed : is_closed i h ≡ true → packets ≡ taken i h

pub faithful_to : (s : ScheduleValue) (lists : PacketLists) (h : List Event) → IsMultiplexSchedule s → IsLawful s h → ((i : ℕ) → i < input_count s → IsTakenOf s h i (lists i)) → IsFaithful s lists h
faithful_to s lists h ok lawful each =
    let n = input_count s in
    faithful_of s lists h lawful
    (λ i. elim (cases_lt i n) [
      | inl inside ↦ (each i inside).begins
      | inr past ↦ (lists i, ap (λ v. v ++ lists i) (sym (taken_within s h i lawful past)))
    ])
    (λ after before i e same noted.
    let P : List Event → Type 0 = IsLawful s in
    let is = each i (note_within s after before i e ok (subst P same lawful) noted) in
    next_of_list s i (lists i) h after before e is.begins is.notes same noted)
    (λ i shut. (each i (closed_within s h i lawful shut)).closed shut)
