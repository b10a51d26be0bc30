-- What the inputs of a run give, and that it was taken so.
use Rattle.std.proofs.Common.{◌≡◌, ℕ, ◌<◌, ◌≤◌, Bool, true, false, if◌then◌else◌, List, [], ◌++◌, length, Option, Some, None, refl, ap, ◌∙◌, sym, subst, inl, inr, ◌⊎◌, append_assoc, arith}
use Rattle.std.specs.List.{slice_get}
use Rattle.std.specs.Option.{option_to_list}
use Rattle.std.specs.Io.KnownBytes.{Consumes}
use Rattle.std.proofs.lemmas.Bool.{cases_lt, false≢true}
use Rattle.std.proofs.lemmas.List.{append-nil}
use Rattle.std.proofs.lemmas.Option.{same_Some, slice_get_within}
use Rattle.tspkt.specs.declared.stamped.Stamped.{Stamped}
use Rattle.request.specs.Request.{InputValue}
use Rattle.schedule.specs.Schedule.{ScheduleValue}
use Rattle.mux.specs.declared.event.Event.{Event}
use Rattle.mux.specs.History.{taken, is_closed}
use Rattle.mux.specs.Lawful.{IsLawful}
use Rattle.schedule.specs.Laws.{IsMultiplexSchedule}
use Rattle.mux.specs.Faithful.{PacketLists, IsFaithful, IsPrefix}
use Rattle.reading.specs.InputLimit.{limit_of_input}
use Rattle.reading.specs.Takeable.{origin_of, framed_at, takeable}
use Rattle.reading.specs.declared.input_limit.InputLimit.{InputLimit}
use Rattle.reading.specs.declared.report.Report.{Report}
use Rattle.reading.specs.declared.stop.Stop.{Stop}
use Rattle.reading.specs.declared.stop.Stop.TheVariants.{Gate, ReadFailed, TooMuch, Memory}
use Rattle.inlets.proofs.FaithfulLaws.{IsTakenOf, prefix_on, notes_of_list, faithful_to}
use Rattle.outcome.specs.Giving.{AreKnown, packet_list, packet_lists, Gives, TakesWhatIsGiven, TakesWhatCame}
use Rattle.outcome.proofs.KnownLaws.{known, same_bytes}
use Rattle.outcome.proofs.ListLaws.{get_within}
use Rattle.outcome.proofs.ReportLaws.{IsToldStop}
use Rattle.outcome.proofs.ServedLaws.{IsServed, came_taken, came_begins, whole_came}

-- some of its packets may not have come of an input: where want of memory stopped it, of one that was closed
abbrev is_cut : Bool → Option Stop → Bool
is_cut shut None = false
is_cut shut (Some Gate) = false
is_cut shut (Some ReadFailed) = true
is_cut shut (Some TooMuch) = true
is_cut shut (Some Memory) = shut

-- all that an input gives: what came of it where it was cut short, else all that can be taken
abbrev pub given_list : List Stamped → List Stamped → Bool → Option Stop → List Stamped
given_list came all shut stopped = if is_cut shut stopped then came else all

whole_list : (came all : List Stamped) (shut : Bool) (told : Option (Option Stop)) (stopped : Option Stop) → IsToldStop told stopped → (stopped ≡ Some Memory → shut ≡ false) → (told ≡ Some (Some ReadFailed) → ⊥) → (told ≡ Some (Some TooMuch) → ⊥)
    → given_list came all shut stopped ≡ all
whole_list came all shut told None is opened unfailed fits = refl
whole_list came all shut told (Some Gate) is opened unfailed fits = refl
whole_list came all shut told (Some ReadFailed) is opened unfailed fits = absurd (unfailed (is.failed refl))
whole_list came all shut told (Some TooMuch) is opened unfailed fits = absurd (fits (is.too_much refl))
whole_list came all shut told (Some Memory) is opened unfailed fits = ap (λ b. if b then came else all) (opened refl)

begins_list : (xs came all : List Stamped) (b : Bool) → IsPrefix xs came → IsPrefix came all → IsPrefix xs (if b then came else all)
begins_list xs came all true first second = first
begins_list xs came all false first second = prefix_on xs came all first second

list_begins : (came all : List Stamped) (b : Bool) → IsPrefix came all → IsPrefix (if b then came else all) all
list_begins came all true begins = begins
list_begins came all false begins = ([], sym (append-nil all))

-- Input i gives these packets, if none of it was taken to its end where it wanted memory. They begin what can be taken.
record GivesOpen (p : ScheduleValue) (h : List Event) (starts lefts : List (Option (List ℕ))) (stops : List (Option Stop)) (i : ℕ) (packets : List Stamped) : Type 0 where
  pub given : (slice_get stops i ≡ Some (Some Memory) → is_closed i h ≡ false) → Gives p starts lefts stops i packets
  pub begins : IsPrefix packets (packet_lists p starts i)

-- One input, and what is told of it.
module _ (limit : ℕ) (p : ScheduleValue) (h : List Event) (i : ℕ) (input : InputValue) (start left : Option (List ℕ)) (report : Report) (x : IsServed limit p h i (origin_of i input) start left report)
    (starts lefts : List (Option (List ℕ))) (stops : List (Option Stop)) (all : List ℕ)
    (input_is : slice_get p.first.request.inputs i ≡ Some input) (start_is : slice_get starts i ≡ Some start) (known_is : start ≡ Some all) where
  abbrev list : List Stamped
  list = packet_lists p starts i

  -- the packets that an input of known bytes gives
  list_is : list ≡ takeable p (origin_of i input) (framed_at (origin_of i input) all)
  list_is = ap (λ v. packet_list p i v (slice_get starts i)) input_is ∙ ap (packet_list p i (Some input)) (start_is ∙ ap Some known_is)

  front : IsPrefix x.came list
  front = (let P : List Stamped → Type 0 = IsPrefix x.came in subst P (sym list_is) (came_begins limit p h i (origin_of i input) start left report x all known_is))

  gives : slice_get lefts i ≡ Some left → IsToldStop (slice_get stops i) report.stopped → (report.stopped ≡ Some Memory → is_closed i h ≡ false)
      → Gives p starts lefts stops i (given_list x.came list (is_closed i h) report.stopped)
  gives left_is told opened = record {
    whole = whole_list x.came list (is_closed i h) (slice_get stops i) report.stopped told opened;
    failed = λ e named first last bytes at first_is last_is used.
        let failed = told.was_failed e in
        let same_input : input ≡ named = same_Some input named (sym input_is ∙ at) in
        let same_start : first ≡ Some all = same_Some first (Some all) (sym first_is ∙ start_is ∙ ap Some known_is) in
        let same_left : last ≡ left = same_Some last left (sym last_is ∙ left_is) in
        let C : Option (List ℕ) → Type 0 = λ v. Consumes v last bytes in
        let D : Option (List ℕ) → Type 0 = λ v. Consumes (Some all) v bytes in
        let E : Option (List ℕ) → Type 0 = λ v. Consumes v left x.bytes in
        let same = same_bytes all left x.bytes bytes (subst E known_is x.read) (subst D same_left (subst C same_start used)) in
        ap (given_list x.came list (is_closed i h)) failed
        ∙ x.failed failed
        ∙ ap (λ v. takeable p (origin_of i input) (framed_at (origin_of i input) v)) same
        ∙ ap (λ v. takeable p (origin_of i v) (framed_at (origin_of i v) bytes)) same_input;
    begins = list_begins x.came list (is_cut (is_closed i h) report.stopped) front;
  }

  gives_open : slice_get lefts i ≡ Some left → IsToldStop (slice_get stops i) report.stopped → (report.stopped ≡ Some Memory → slice_get stops i ≡ Some (Some Memory))
      → GivesOpen p h starts lefts stops i (given_list x.came list (is_closed i h) report.stopped)
  gives_open left_is told wanted = record {
    given = λ opened. gives left_is told (λ e. opened (wanted e));
    begins = list_begins x.came list (is_cut (is_closed i h) report.stopped) front;
  }

  closed_list : is_closed i h ≡ true → (stopped : Option Stop) → report.stopped ≡ stopped → given_list x.came list (is_closed i h) stopped ≡ taken i h
  closed_list shut None e = list_is ∙ sym (whole_came limit p h i (origin_of i input) start left report x all known_is shut e) ∙ came_taken limit p h i (origin_of i input) start left report x shut
  closed_list shut (Some Gate) e = absurd (false≢true (sym (x.unclosed e) ∙ shut))
  closed_list shut (Some ReadFailed) e = came_taken limit p h i (origin_of i input) start left report x shut
  closed_list shut (Some TooMuch) e = came_taken limit p h i (origin_of i input) start left report x shut
  closed_list shut (Some Memory) e = ap (λ b. if b then x.came else list) shut ∙ came_taken limit p h i (origin_of i input) start left report x shut

  pub taken_of : IsTakenOf p h i (given_list x.came list (is_closed i h) report.stopped)
  taken_of =
      let shown = option_to_list x.shown in
      let cut = is_cut (is_closed i h) report.stopped in
      record {
        begins = begins_list (taken i h) x.came list cut (shown ++ x.rest, x.came_is ∙ append_assoc (taken i h) shown x.rest) front;
        notes = notes_of_list p i (taken i h ++ shown) (given_list x.came list (is_closed i h) report.stopped) h (begins_list (taken i h ++ shown) x.came list cut (x.rest, x.came_is) front) x.notes;
        closed = λ shut. closed_list shut report.stopped refl;
      }

-- A run read the schedule's input: its source had these bytes to give at first and has those left, and this is told of what
-- stopped it.
pub record CameOf (limit : InputLimit) (p : ScheduleValue) (h : List Event) (starts lefts : List (Option (List ℕ))) (stops : List (Option Stop)) (i : ℕ) (input : InputValue) : Type 0 where
  pub start : Option (List ℕ)
  pub left : Option (List ℕ)
  pub report : Report
  pub served : IsServed (limit_of_input limit input.size) p h i (origin_of i input) start left report
  pub start_is : slice_get starts i ≡ Some start
  pub left_is : slice_get lefts i ≡ Some left
  pub told : IsToldStop (slice_get stops i) report.stopped
  pub wanted : report.stopped ≡ Some Memory → slice_get stops i ≡ Some (Some Memory)

-- the lists of the inputs that there are, and those of no input
abbrev pick : (n : ℕ) → ((i : ℕ) → i < n → List Stamped) → PacketLists → (i : ℕ) → (i < n) ⊎ (n ≤ i) → List Stamped
pick n lists others i (inl inside) = lists i inside
pick n lists others i (inr past) = others i

-- an input that is none gives nothing
gives_past : (p : ScheduleValue) (h : List Event) (starts lefts : List (Option (List ℕ))) (stops : List (Option Stop)) (i : ℕ) → length p.first.request.inputs ≤ i → GivesOpen p h starts lefts stops i (packet_lists p starts i)
gives_past p h starts lefts stops i past =
    let begins : IsPrefix (packet_lists p starts i) (packet_lists p starts i) = ([], sym (append-nil (packet_lists p starts i))) in
    record {
      given = λ opened. record {
        whole = λ unfailed fits. refl;
        failed = λ e input start left bytes at from to used. absurd (omega (arith, slice_get_within p.first.request.inputs i input at, past));
        begins = begins;
      };
      begins = begins;
    }

module _ (limit : InputLimit) (p : ScheduleValue) (h : List Event) (starts lefts : List (Option (List ℕ))) (stops : List (Option Stop))
    (came : (i : ℕ) (input : InputValue) → slice_get p.first.request.inputs i ≡ Some input → CameOf limit p h starts lefts stops i input)
    (schedule : IsMultiplexSchedule p) (lawful : IsLawful p h) (are : AreKnown starts) where
  abbrev input_at : (i : ℕ) → i < length p.first.request.inputs → (input : InputValue) × (slice_get p.first.request.inputs i ≡ Some input)
  input_at i inside = get_within p.first.request.inputs i inside

  abbrev came_at : (i : ℕ) (inside : i < length p.first.request.inputs) → CameOf limit p h starts lefts stops i (input_at i inside).0
  came_at i inside = came i (input_at i inside).0 (input_at i inside).1

  -- what an input gives
  abbrev list_at : (i : ℕ) → i < length p.first.request.inputs → List Stamped
  list_at i inside = (let x = came_at i inside in given_list x.served.came (packet_lists p starts i) (is_closed i h) x.report.stopped)

  abbrev lists : PacketLists
  lists i = pick (length p.first.request.inputs) list_at (packet_lists p starts) i (cases_lt i (length p.first.request.inputs))

  gives_at : (i : ℕ) (inside : i < length p.first.request.inputs) → GivesOpen p h starts lefts stops i (list_at i inside)
  gives_at i inside =
      let x = came_at i inside in
      let b = known x.start (are i x.start x.start_is) in
      gives_open (limit_of_input limit (input_at i inside).0.size) p h i (input_at i inside).0 x.start x.left x.report x.served starts lefts stops b.0 (input_at i inside).1 x.start_is b.1 x.left_is x.told x.wanted

  taken_at : (i : ℕ) (inside : i < length p.first.request.inputs) → IsTakenOf p h i (list_at i inside)
  taken_at i inside =
      let x = came_at i inside in
      let b = known x.start (are i x.start x.start_is) in
      taken_of (limit_of_input limit (input_at i inside).0.size) p h i (input_at i inside).0 x.start x.left x.report x.served starts lefts stops b.0 (input_at i inside).1 x.start_is b.1

  all_give : (i : ℕ) → GivesOpen p h starts lefts stops i (lists i)
  all_give i = elim (cases_lt i (length p.first.request.inputs)) as (λ c. GivesOpen p h starts lefts stops i (pick (length p.first.request.inputs) list_at (packet_lists p starts) i c)) [
    | inl inside ↦ gives_at i inside
    | inr past ↦ gives_past p h starts lefts stops i past
  ]

  all_taken : IsFaithful p lists h
  all_taken = faithful_to p lists h schedule lawful
      (λ i here. elim (cases_lt i (length p.first.request.inputs)) as (λ c. IsTakenOf p h i (pick (length p.first.request.inputs) list_at (packet_lists p starts) i c)) [
        | inl inside ↦ taken_at i inside
        | inr past ↦ absurd (omega (arith, here, past))
      ])

  -- what came of all inputs was taken in order
  pub takes_what_came : TakesWhatCame p starts lefts stops h
  takes_what_came = (lists, λ i. record { given = λ other. (all_give i).given (λ e. absurd (other e)); begins = (all_give i).begins }, all_taken)

  -- and it is what is given, unless an input was closed that wanted memory
  pub takes_what_is_given : ((i : ℕ) → slice_get stops i ≡ Some (Some Memory) → is_closed i h ≡ false) → TakesWhatIsGiven p starts lefts stops h
  takes_what_is_given opened = (lists, λ i. (all_give i).given (opened i), all_taken)
