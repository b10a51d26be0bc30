-- A turn of an input: it was read on, and its next packet was taken or is held back, or it was closed.
use Rattle.std.proofs.Common.{ℕ, ◌<◌, ◌≡◌, ◌≢◌, ◌⊎◌, true, false, List, ◌++◌, ◌∷◌, [], Option, Some, None, if◌then◌else◌, refl, ap, ◌∙◌, sym, subst, arith, inl, inr}
use Rattle.std.specs.Prelude.{IsSome, Ok, Result}
use Rattle.std.proofs.lemmas.Bool.{false≢true}
use Rattle.tspkt.specs.declared.stamped.Stamped.{Stamped}
use Rattle.schedule.specs.Schedule.{ScheduleValue}
use Rattle.mux.specs.declared.event.Event.{Event}
use Rattle.mux.specs.declared.event.Event.TheVariants.{Full, Early, Close}
use Rattle.mux.specs.History.{History, with_event, taken}
use Rattle.schedule.specs.Laws.{IsMultiplexSchedule}
use Rattle.mux.specs.Lawful.{is_ready}
use Rattle.mux.proofs.Refusals.{early_of}
use Rattle.reading.specs.PacketReading.{ReadsOn, GoesOn, WantsMore, IsSpent, TellsFailures}
use Rattle.reading.specs.Takeable.{OriginValue}
use Rattle.reading.specs.declared.stop.Stop.TheVariants.{Memory}
use Rattle.reading.specs.Holding.{PacketReader}
use Rattle.reading.proofs.PacketLaws.{reads_nothing, reads_told, reads_reads}
use Rattle.reading.proofs.FailureLaws.{goes_goes}
use Rattle.inlets.specs.Looking.{Looks}
use Rattle.inlets.specs.Turns.{IsTurned, Turns}
use Rattle.inlets.specs.Stepping.{HasTurn, Steps}
use Rattle.inlets.specs.declared.step.Step.{Step}
use Rattle.inlets.specs.declared.taking.Taking.{Taking}
use Rattle.inlets.specs.declared.taking.Taking.TheVariants as turn
use Rattle.inlets.specs.Notes.{IsOfInput}
use Rattle.inlets.proofs.NoteLaws.{notes_seen}
use Rattle.outcome.proofs.NextLaws.{next_in_order}
use Rattle.serial.specs.Feeding.{SerialInput, HasGiven, Feeds, FeedsOn, HasFed, IsGivenOrHeld, turns_left}
use Rattle.serial.proofs.FeedingLaws.{has_fed, given_on, given_released, inside_given, waited_for, feeds_closed, feeds_given, given_event, given_limit, given_failures, given_source, fewer, fewer_closed, few_given}

-- Looks among what was read, and reads, lead from the one to the other. A packet that is held stays so.
pub record IsLed {R : Type 0} (remaining : R → Option (List ℕ)) (failures : R → ℕ) (s : ScheduleValue) (old new : PacketReader R) : Type 0 where
  pub reads : ReadsOn remaining s old new
  pub goes : GoesOn failures old new
  pub stays : IsSome old.held → new ≡ old

pub led_on : {R : Type 0} (remaining : R → Option (List ℕ)) (failures : R → ℕ) (s : ScheduleValue) (a b c : PacketReader R) → IsLed remaining failures s a b → IsLed remaining failures s b c → IsLed remaining failures s a c
led_on remaining failures s a b c first second = record {
  reads = reads_reads remaining s a b c first.reads second.reads;
  goes = goes_goes failures a b c first.goes second.goes;
  stays = λ some. (let same = first.stays some in second.stays (subst (λ (v : PacketReader _). IsSome v.held) (sym same) some) ∙ same);
}

pub led_by_look : {R : Type 0} (remaining : R → Option (List ℕ)) (failures : R → ℕ) (s : ScheduleValue) (old new : PacketReader R) → Looks remaining failures s old new → (IsSome old.held → new ≡ old) → IsLed remaining failures s old new
led_by_look remaining failures s old new looks stays = record {
  reads = reads_told remaining s old old new (reads_nothing remaining s old) looks.read looks.source;
  goes = looks.goes;
  stays = stays;
}

-- one that holds a packet, or of which nothing is left, doesn't wait
pub waits_not : {R : Type 0} (remaining : R → Option (List ℕ)) (failures : R → ℕ) (s : ScheduleValue) (old new : PacketReader R) → Looks remaining failures s old new → (IsSome old.held → new ≡ old)
    → (IsSome old.held ⊎ IsSpent old) → WantsMore new → ⊥
waits_not remaining failures s old new looks stays (inl some) wants =
    let none : old.held ≡ None = ap (λ (v : PacketReader _). v.held) (sym (stays some)) ∙ wants.held in
    let bad : false ≡ true = subst IsSome none some in
    cc
waits_not remaining failures s old new looks stays (inr spent) wants =
    let bad : false ≡ true = subst IsSome spent.framer (looks.goes.reading wants.framer) in
    cc

-- what was found holds a packet, or nothing is left
pub found_or_spent : {R E : Type 0} (x : PacketReader R) (result : Result (Option ℕ) E) (found : Option ℕ) → result ≡ Ok found → ((number : ℕ) → result ≡ Ok (Some number) → IsSome x.held) → (result ≡ Ok None → IsSpent x)
    → IsSome x.held ⊎ IsSpent x
found_or_spent x result None is some none = inr (none is)
found_or_spent x result (Some number) is some none = inl (some number is)

-- The turn of an input of the run.

abbrev pub IsReaderTurned : {R : Type 0} → ℕ → History → SerialInput R → Taking → History → SerialInput R → Type 0
IsReaderTurned {R} = IsTurned (λ (x : PacketReader R). x.held) (λ (x : PacketReader R). IsSpent x) (λ (x : PacketReader R). WantsMore x) (λ (x : PacketReader R). record x { held = None })

abbrev pub ReaderTurns : {R : Type 0} → (R → Option (List ℕ)) → (R → ℕ) → ℕ → History → SerialInput R → Taking → History → SerialInput R → Type 0
ReaderTurns {R} remaining failures = Turns (λ (x : PacketReader R). x.held) (λ (x : PacketReader R). IsSpent x) (λ (x : PacketReader R). WantsMore x) (λ s old new. Looks remaining failures s old new) (λ (x : PacketReader R). record x { held = None })

-- the same in a run's step
abbrev pub ReaderHasTurn : {R : Type 0} → (R → Option (List ℕ)) → (R → ℕ) → ℕ → History → List (SerialInput R) → Taking → History → List (SerialInput R) → Type 0
ReaderHasTurn {R} remaining failures = HasTurn (λ (x : PacketReader R). x.held) (λ (x : PacketReader R). IsSpent x) (λ (x : PacketReader R). WantsMore x) (λ s old new. Looks remaining failures s old new) (λ (x : PacketReader R). record x { held = None })

abbrev pub ReaderSteps : {R : Type 0} → (R → Option (List ℕ)) → (R → ℕ) → History → List (SerialInput R) → Step → History → List (SerialInput R) → Type 0
ReaderSteps {R} remaining failures = Steps (λ (x : PacketReader R). x.held) (λ (x : PacketReader R). IsSpent x) (λ (x : PacketReader R). WantsMore x) (λ s old new. Looks remaining failures s old new) (λ (x : PacketReader R). record x { held = None })

-- The packet that it holds was taken, or is held back, or nothing is left of it and it was closed. A packet that can never be taken
-- isn't among those that a reader holds.
abbrev pub IsGivenOrClosed : {R : Type 0} → History → History → ℕ → SerialInput R → SerialInput R → Type 0
IsGivenOrClosed {R} before after i x y =
    ((item : Stamped) × (x.inlet.held ≡ Some item) × IsGivenOrHeld before after i x y item)
    ⊎ (IsSpent x.inlet × (after ≡ with_event before (Close i)) × (y ≡ record x { is_closed = true }))

given_or_closed : {R : Type 0} (remaining : R → Option (List ℕ)) (h new : History) (i : ℕ) (start : Option (List ℕ)) (x y : SerialInput R) (answer : Taking) → IsMultiplexSchedule h.run.schedule → is_ready h.run.schedule i h.events ≡ false
    → HasGiven remaining h.run.schedule i start x (taken i h.events) → (answer ≡ turn.Waits → ⊥) → IsReaderTurned i h x answer new y → IsGivenOrClosed h new i x y
given_or_closed remaining h new i start x y turn.Took ok unready has ends (item, held, history, is) = inl (item, held, inl (history, is))
given_or_closed remaining h new i start x y turn.HeldBack ok unready has ends (item, held, (inl full), is) =
    let note = full.1 in
    let noted = (waited_for h.run.schedule i h.events unready).noted in
    inl (item, held, inr (inl (note.0, note.3 ∙ ap (λ b. if b then h else with_event h (Full i note.0)) noted.0, is, note.2)))
given_or_closed remaining h new i start x y turn.HeldBack ok unready has ends (item, held, (inr early), is) =
    let noted = (waited_for h.run.schedule i h.events unready).noted in
    inl (item, held, inr (inr (early.1 ∙ ap (λ b. if b then h else with_event h (Early i)) noted.1, is, early_of h.run.schedule h.events i item early.0)))
given_or_closed remaining h new i start x y turn.Closed ok unready has ends ((inl (item, held, bad)), history, is) =
    let given = (given_released remaining h.run.schedule i start x (taken i h.events) item held has).0 in
    let o = given.origin in
    let number : x.inlet.origin.number ≡ i = ap (λ (v : OriginValue). v.number) o.3 in
    let rate : x.inlet.origin.rate ≡ o.0.rate = ap (λ (v : OriginValue). v.rate) o.3 in
    let least = o.2.rate.0 in
    let inside = inside_given remaining h.run.schedule i start _ (taken i h.events ++ item ∷ []) given in
    let next = next_in_order h.run.schedule h.events i x.inlet.origin item inside.0 inside.1 ok number (omega (arith, rate, least)) inside.3 in
    elim bad [
      | inl unmapped ↦ absurd (false≢true (sym unmapped ∙ next.mapped))
      | inr back ↦ (let later = next.later in absurd (omega (arith, back, later)))
    ]
given_or_closed remaining h new i start x y turn.Closed ok unready has ends ((inr (spent, none)), history, is) = inr (spent, history, is)
given_or_closed remaining h new i start x y turn.Waits ok unready has ends turned = absurd (ends refl)

-- What a turn leaves.
pub record Pulls {R : Type 0} (remaining : R → Option (List ℕ)) (failures : R → ℕ) (h new : History) (i : ℕ) (x y : SerialInput R) (led : PacketReader R) : Type 0 where
  pub feeds : (start : Option (List ℕ)) → FeedsOn remaining h.run.schedule h.events i start x → Feeds remaining h.run.schedule new.events i start y
  pub event : (e : Event) × (new ≡ with_event h e) × IsOfInput i e
  pub fewer : turns_left i new.events < turns_left i h.events
  pub limit : y.inlet.stream.items.limit ≡ x.inlet.stream.items.limit
  pub failures_told : (count : ℕ) → TellsFailures failures count x.inlet → TellsFailures failures count y.inlet
  pub source : y.inlet.stream.source ≡ led.stream.source

pub pulled : {R : Type 0} (remaining : R → Option (List ℕ)) (failures : R → ℕ) (h new : History) (i : ℕ) (x y : SerialInput R) (led : PacketReader R) (answer : Taking) → IsMultiplexSchedule h.run.schedule → is_ready h.run.schedule i h.events ≡ false
    → ((start : Option (List ℕ)) × FeedsOn remaining h.run.schedule h.events i start x) → IsLed remaining failures h.run.schedule x.inlet led → (led.report.stopped ≡ Some Memory → x.inlet.report.stopped ≡ Some Memory) → (answer ≡ turn.Waits → ⊥)
    → IsReaderTurned i h (record x { inlet = led }) answer new y → Pulls remaining failures h new i x y led
pulled {R} remaining failures h new i x y led answer ok unready feeds is unrefused ends turned =
    let p = h.run.schedule in
    let f = feeds.1 in
    let seen : SerialInput R = record x { inlet = led } in
    let has = given_on remaining p i feeds.0 x seen (taken i h.events) f.fed.given is.reads is.goes.origin is.goes.limit in
    let wait = waited_for p i h.events unready in
    let held_stays : IsSome x.inlet.held → led.held ≡ x.inlet.held = λ some. ap (λ (v : PacketReader R). v.held) (is.stays some) in
    elim (given_or_closed remaining h new i feeds.0 seen y answer ok unready has ends turned) [
      | inl given ↦
          (let item = given.0 in
          let out = given.2 in
          record {
            feeds = λ start now.
                feeds_given remaining p h new i start seen y item out given.1 (given_on remaining p i start x seen (taken i h.events) now.fed.given is.reads is.goes.origin is.goes.limit) wait.open_ now.fed.closed
                (record { unleft = λ e. now.own.unleft (is.goes.unleft e); unrefused = λ e. now.own.unrefused (unrefused e) }) (notes_seen p i x.inlet.held led.held h.events held_stays now.fed.notes) refl;
            event = given_event h new i seen y item out;
            fewer = fewer h new i seen y item out (few_given remaining p i feeds.0 _ _ (given_released remaining p i feeds.0 seen (taken i h.events) item given.1 has).0) wait.noted;
            limit = given_limit h new i seen y item out ∙ is.goes.limit;
            failures_told = λ count tells. given_failures failures count h new i seen y item out (is.goes.failures_told count tells);
            source = given_source h new i seen y item out;
          })
      | inr closed ↦
          (let spent = closed.0 in
          let history = closed.1 in
          let at = closed.2 in
          record {
            feeds = λ start now.
                (let now_has = given_on remaining p i start x seen (taken i h.events) now.fed.given is.reads is.goes.origin is.goes.limit in
                let M : History → Type 0 = λ v. Feeds remaining p v.events i start y in
                let N : SerialInput R → Type 0 = Feeds remaining p (Close i ∷ h.events) i start in
                subst M (sym history) (subst N (sym at) (feeds_closed remaining p h.events i start seen now_has spent
                (record { unleft = λ e. now.own.unleft (is.goes.unleft e); unrefused = λ e. now.own.unrefused (unrefused e) }) (notes_seen p i x.inlet.held led.held h.events held_stays now.fed.notes))));
            event = (Close i, history, refl);
            fewer = (let F : History → Type 0 = λ v. turns_left i v.events < turns_left i h.events in subst F (sym history) (fewer_closed i h.events wait.open_));
            limit = ap (λ (v : SerialInput R). v.inlet.stream.items.limit) at ∙ is.goes.limit;
            failures_told = λ count tells.
                (let T : SerialInput R → Type 0 = λ v. TellsFailures failures count v.inlet in
                subst T (sym at) (is.goes.failures_told count tells));
            source = ap (λ (v : SerialInput R). v.inlet.stream.source) at;
          })
    ]

-- The input's turn came at once.
pub pulled_at_once : {R : Type 0} (remaining : R → Option (List ℕ)) (failures : R → ℕ) (h new : History) (i : ℕ) (x y : SerialInput R) (answer : Taking) → IsMultiplexSchedule h.run.schedule → is_ready h.run.schedule i h.events ≡ false
    → ((start : Option (List ℕ)) × FeedsOn remaining h.run.schedule h.events i start x) → answer ≢ turn.Waits → (t : ReaderTurns remaining failures i h x answer new y) → Pulls remaining failures h new i x y t.0
pulled_at_once remaining failures h new i x y answer ok unready feeds seen (look, looks, stays, turned) =
    pulled remaining failures h new i x y look answer ok unready feeds (led_by_look remaining failures h.run.schedule x.inlet look looks stays) (λ e. sym looks.stopped ∙ e) seen turned

-- It was read on, and then its turn came.
pub pulled_behind : {R : Type 0} (remaining : R → Option (List ℕ)) (failures : R → ℕ) (h new : History) (i : ℕ) (x y : SerialInput R) (read : PacketReader R) (answer : Taking) → IsMultiplexSchedule h.run.schedule → is_ready h.run.schedule i h.events ≡ false
    → ((start : Option (List ℕ)) × FeedsOn remaining h.run.schedule h.events i start x) → IsLed remaining failures h.run.schedule x.inlet read → (read.report.stopped ≡ Some Memory → x.inlet.report.stopped ≡ Some Memory) → (IsSome read.held ⊎ IsSpent read)
    → (t : ReaderTurns remaining failures i h (record x { inlet = read }) answer new y) → Pulls remaining failures h new i x y t.0
pulled_behind {R} remaining failures h new i x y read answer ok unready feeds led unrefused found (seen, looks, stays, turned) =
    let p = h.run.schedule in
    let W : Taking → Type 0 = λ v. IsReaderTurned i h (record x { inlet = seen }) v new y in
    pulled remaining failures h new i x y seen answer ok unready feeds (led_on remaining failures p x.inlet read seen led (led_by_look remaining failures p read seen looks stays))
    (λ e. unrefused (sym looks.stopped ∙ e)) (λ e. waits_not remaining failures p read seen looks stays found (subst W e turned).0) turned

-- Nothing was seen of it.
pub record WaitsOn {R : Type 0} (remaining : R → Option (List ℕ)) (failures : R → ℕ) (h new : History) (i : ℕ) (x y : SerialInput R) : Type 0 where
  pub history : new ≡ h
  pub feeds : (start : Option (List ℕ)) → Feeds remaining h.run.schedule h.events i start x → FeedsOn remaining h.run.schedule h.events i start y
  pub limit : y.inlet.stream.items.limit ≡ x.inlet.stream.items.limit
  pub failures_told : (count : ℕ) → TellsFailures failures count x.inlet → TellsFailures failures count y.inlet
  pub stopped : y.inlet.report.stopped ≡ x.inlet.report.stopped

-- one that was led on has fed
has_fed_on : {R : Type 0} (remaining : R → Option (List ℕ)) (failures : R → ℕ) (p : ScheduleValue) (h : List Event) (i : ℕ) (start : Option (List ℕ)) (x : SerialInput R) (read : PacketReader R) → is_ready p i h ≡ false
    → HasFed remaining p h i start x → IsLed remaining failures p x.inlet read → HasFed remaining p h i start (record x { inlet = read })
has_fed_on {R} remaining failures p h i start x read unready f led = record {
  given = given_on remaining p i start x (record x { inlet = read }) (taken i h) f.given led.reads led.goes.origin led.goes.limit;
  closed = f.closed;
  over = λ e. absurd (false≢true (sym (waited_for p i h unready).open_ ∙ sym f.closed ∙ e));
  notes = notes_seen p i x.inlet.held read.held h (λ some. ap (λ (v : PacketReader R). v.held) (led.stays some)) f.notes;
}

pub waits_on : {R : Type 0} (remaining : R → Option (List ℕ)) (failures : R → ℕ) (h new : History) (i : ℕ) (x y : SerialInput R) → is_ready h.run.schedule i h.events ≡ false → ReaderTurns remaining failures i h x turn.Waits new y
    → WaitsOn remaining failures h new i x y
waits_on {R} remaining failures h new i x y unready (seen, looks, stays, (waits, none, history, is)) =
    let p = h.run.schedule in
    let led = led_by_look remaining failures p x.inlet seen looks stays in
    record {
      history = history;
      feeds = λ start f.
          (let F : SerialInput R → Type 0 = FeedsOn remaining p h.events i start in
          let stopped : seen.report.stopped ≡ x.inlet.report.stopped = looks.stopped in
          subst F (sym is) (record {
            fed = has_fed_on remaining failures p h.events i start x seen unready (has_fed remaining p h.events i start x f) led;
            own = record { unleft = λ e. f.own.unleft (sym stopped ∙ e); unrefused = λ e. f.own.unrefused (sym stopped ∙ e) };
          }));
      limit = ap (λ (v : SerialInput R). v.inlet.stream.items.limit) is ∙ led.goes.limit;
      failures_told = λ count tells. (let T : SerialInput R → Type 0 = λ v. TellsFailures failures count v.inlet in subst T (sym is) (led.goes.failures_told count tells));
      stopped = ap (λ (v : SerialInput R). v.inlet.report.stopped) is ∙ looks.stopped;
    }

-- A run whose fault ended it when this input was read on.
pub halted_on : {R : Type 0} (remaining : R → Option (List ℕ)) (failures : R → ℕ) (h : History) (i : ℕ) (x : SerialInput R) (read : PacketReader R) → is_ready h.run.schedule i h.events ≡ false → IsLed remaining failures h.run.schedule x.inlet read
    → (start : Option (List ℕ)) → FeedsOn remaining h.run.schedule h.events i start x → HasFed remaining h.run.schedule h.events i start (record x { inlet = read })
halted_on remaining failures h i x read unready led start f = has_fed_on remaining failures h.run.schedule h.events i start x read unready f.fed led

-- nothing was read
pub led_nowhere : {R : Type 0} (remaining : R → Option (List ℕ)) (failures : R → ℕ) (s : ScheduleValue) (x : PacketReader R) → IsLed remaining failures s x x
led_nowhere remaining failures s x = record {
  reads = reads_nothing remaining s x;
  goes = record { failures_told = λ count tells. tells; going = λ e. e; unleft = λ e. e; reading = λ e. e; origin = refl; limit = refl };
  stays = λ some. refl;
}
