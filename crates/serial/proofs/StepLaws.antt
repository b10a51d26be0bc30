-- A step of a run that sends no slot: the next plan comes into force, or an input has its turn, read on or not.
use Rattle.std.proofs.Common.{ℕ, ◌<◌, ◌≡◌, ◌≢◌, ◌⊎◌, List, ◌∷◌, ◌++◌, length, set, get_or, Option, Some, refl, ap, ◌∙◌, sym, subst, inl, inr, append_assoc}
use Rattle.std.specs.List.{slice_get}
use Rattle.std.proofs.lemmas.List.{set-set, get_or-set_same}
use Rattle.std.proofs.lemmas.Option.{slice_get_within, get_or_from_slice_get}
use Rattle.schedule.specs.Schedule.{ScheduleValue}
use Rattle.mux.specs.declared.event.Event.{Event}
use Rattle.mux.specs.declared.sending.Sending.TheVariants as sending
use Rattle.mux.specs.History.{Run, History, with_event, emitted}
use Rattle.schedule.specs.Laws.{IsMultiplexSchedule}
use Rattle.mux.specs.Answers as answers
use Rattle.mux.specs.Answers.{SendAnswers, IsLeastUnready}
use Rattle.reading.specs.PacketReading.{TellsFailures}
use Rattle.reading.specs.declared.stop.Stop.TheVariants.{Memory}
use Rattle.reading.specs.declared.input_limit.InputLimit.{InputLimit}
use Rattle.inlets.specs.Notes.{IsOfInput}
use Rattle.inlets.specs.declared.taking.Taking.{Taking}
use Rattle.inlets.specs.declared.taking.Taking.TheVariants as turn
use Rattle.inlets.specs.declared.step.Step.{Step}
use Rattle.inlets.specs.declared.step.Step.TheVariants as steps
use Rattle.inlets.proofs.EventLaws.{emitted_same}
use Rattle.outlet.specs.Sending.{bytes_of, HasAnalysed}
use Rattle.outlet.specs.Written.{Sends, SendsBeginning}
use Rattle.outlet.specs.declared.slot_writer.SlotWriter.{SlotWriter}
use Rattle.outlet.proofs.KnownLaws.{appends_on}
use Rattle.serial.specs.declared.serial_run.SerialRun.{SerialRun}
use Rattle.serial.specs.Feeding.{SerialInput, Feeds, FeedsOn, HasFed, AreLimited, AreUnrefused, AllTellFailures, turns_left}
use Rattle.outcome.specs.Taking.{IsOver, TakesAsNeeded}
use Rattle.serial.specs.Running.{AreFed, AreHalted, IsRunning, steps_left}
use Rattle.serial.proofs.FailureLaws.{all_tell}
use Rattle.serial.proofs.FeedingLaws.{feeds_on}
use Rattle.serial.proofs.HaltedLaws.{all_limited, halted_looked, unrefused_looked}
use Rattle.serial.proofs.RunningLaws.{fed_input, fed_switch, fewer_by_input, fewer_switched, is_switched}
use Rattle.outcome.proofs.NeededLaws.{needed_of}
use Rattle.serial.proofs.TurnLaws.{ReaderHasTurn, ReaderSteps, WaitsOn, waits_on, pulled_at_once}

-- the inputs of a run are fed
pub fed_of : {R : Type 0} (remaining : R → Option (List ℕ)) (r : SerialRun R) → ((run : Run) × (limit : InputLimit) × (starts : List (Option (List ℕ))) × IsRunning remaining run limit starts r)
    → (starts : List (Option (List ℕ))) × AreFed remaining r.mux.run.schedule r.mux.events starts r.inputs.items
fed_of remaining r goes =
    let is = goes.3 in
    let F : ScheduleValue → Type 0 = λ p. AreFed remaining p r.mux.events goes.2 r.inputs.items in
    (goes.2, subst F (sym (ap (λ (v : Run). v.schedule) is.run_is)) is.fed)

-- What such a step leaves: the inputs feed on, there is a step less, nothing went out, and what was taken was needed.
pub record GoesUnsent {R : Type 0} (remaining : R → Option (List ℕ)) (failures : R → ℕ) (h new : History) (xs ys : List (SerialInput R)) : Type 0 where
  pub run : new.run ≡ h.run
  pub fed : (starts : List (Option (List ℕ))) → AreFed remaining h.run.schedule h.events starts xs → AreFed remaining h.run.schedule new.events starts ys
  pub limited : (most : InputLimit) (s : ScheduleValue) → AreLimited most s xs → AreLimited most s ys
  pub tell : (befores : List ℕ) → AllTellFailures failures befores xs → AllTellFailures failures befores ys
  pub out : emitted h.run.schedule new.events ≡ emitted h.run.schedule h.events
  pub fewer : steps_left h.run new.events < steps_left h.run h.events
  pub needed : TakesAsNeeded h.run h.events → TakesAsNeeded h.run new.events

-- the next plan came into force
unsent_switch : {R : Type 0} (remaining : R → Option (List ℕ)) (failures : R → ℕ) (h new : History) (xs ys : List (SerialInput R)) → SendAnswers h sending.Switched new → ys ≡ xs → GoesUnsent remaining failures h new xs ys
unsent_switch {R} remaining failures h new xs ys answer same =
    let p = h.run.schedule in
    let s = is_switched p h new refl answer in
    record {
      run = ap (λ (v : History). v.run) answer.2;
      fed = λ starts fed.
          (let F : List Event × List (SerialInput R) → Type 0 = λ v. AreFed remaining p v.0 starts v.1 in
          subst F (λ k. (sym s.events k, sym same k)) (fed_switch remaining p h.events s.number starts xs fed));
      limited = λ most q all. (let L : List (SerialInput R) → Type 0 = AreLimited most q in subst L (sym same) all);
      tell = λ befores all. (let T : List (SerialInput R) → Type 0 = AllTellFailures failures befores in subst T (sym same) all);
      out = s.out;
      fewer = fewer_switched h new answer;
      needed = λ is. subst (TakesAsNeeded h.run) (sym s.events) (tt, is);
    }

-- an input had its turn
unsent_input : {R : Type 0} (remaining : R → Option (List ℕ)) (failures : R → ℕ) (h new : History) (xs : List (SerialInput R)) (i : ℕ) (x y : SerialInput R) → slice_get xs i ≡ Some x → answers.IsRunning h → IsLeastUnready h i
    → ((e : Event) × (new ≡ with_event h e) × IsOfInput i e) → turns_left i new.events < turns_left i h.events
    → ((start : Option (List ℕ)) → Feeds remaining h.run.schedule h.events i start x → Feeds remaining h.run.schedule new.events i start y)
    → y.inlet.stream.items.limit ≡ x.inlet.stream.items.limit → ((count : ℕ) → TellsFailures failures count x.inlet → TellsFailures failures count y.inlet)
    → GoesUnsent remaining failures h new xs (set xs i y)
unsent_input {R} remaining failures h new xs i x y there running unready event less feeds limit tells =
    let p = h.run.schedule in
    let e = event.0 in
    let events : new.events ≡ e ∷ h.events = ap (λ (v : History). v.events) event.1 in
    let value : x ≡ get_or xs i x = sym (get_or_from_slice_get xs i x x there) in
    record {
      run = ap (λ (v : History). v.run) event.1;
      fed = λ starts fed.
          (let M : List Event → Type 0 = λ v. (start : Option (List ℕ)) → Feeds remaining p h.events i start x → Feeds remaining p v i start y in
          let N : List Event → Type 0 = λ v. AreFed remaining p v starts (set xs i y) in
          subst N (sym events) (fed_input remaining p h.events e i starts xs x y value unready.input event.2 fed (subst M events feeds)));
      limited = λ most q all. all_limited most q xs i x y value (slice_get_within xs i x there) limit all;
      tell = λ befores all. all_tell failures befores xs i x y value tells all;
      out = ap (emitted p) events ∙ emitted_same p i e h.events event.2;
      fewer =
          (let S : List Event → Type 0 = λ v. steps_left h.run v < steps_left h.run h.events in
          let T : List Event → Type 0 = λ v. turns_left i v < turns_left i h.events in
          subst S (sym events) (fewer_by_input h.run h.events e i unready.input event.2 (subst T events less)));
      needed = λ is. subst (TakesAsNeeded h.run) (sym events) (needed_of h.run i e h.events event.2 (running.within, unready), is);
    }

unsent_turned : {R : Type 0} (remaining : R → Option (List ℕ)) (failures : R → ℕ) (h new : History) (xs ys : List (SerialInput R)) (i : ℕ) (answer : Taking) → IsMultiplexSchedule h.run.schedule
    → ((starts : List (Option (List ℕ))) × AreFed remaining h.run.schedule h.events starts xs) → answer ≢ turn.Waits → ReaderHasTurn remaining failures i h xs answer new ys → GoesUnsent remaining failures h new xs ys
unsent_turned {R} remaining failures h new xs ys i answer ok fed seen t =
    let p = h.run.schedule in
    let x = t.before in
    let f = fed.1.each i x t.there in
    let pulls = pulled_at_once remaining failures h new i x t.after answer ok t.unready.unready (f.0, feeds_on remaining p h.events i f.0 x f.2) seen t.turns in
    let U : List (SerialInput R) → Type 0 = GoesUnsent remaining failures h new xs in
    subst U (sym t.entries)
    (unsent_input remaining failures h new xs i x t.after t.there t.running t.unready pulls.event pulls.fewer (λ start own. pulls.feeds start (feeds_on remaining p h.events i start x own)) pulls.limit pulls.failures_told)

-- by the answer
pub unsent_by : {R : Type 0} (remaining : R → Option (List ℕ)) (failures : R → ℕ) (h new : History) (xs ys : List (SerialInput R)) (answer : Step) → IsMultiplexSchedule h.run.schedule
    → ((starts : List (Option (List ℕ))) × AreFed remaining h.run.schedule h.events starts xs) → (answer ≡ steps.Switched) ⊎ (answer ≡ steps.Turned) → ReaderSteps remaining failures h xs answer new ys
    → GoesUnsent remaining failures h new xs ys
unsent_by remaining failures h new xs ys answer ok fed (inl e) is =
    let P : Step → Type 0 = λ v. ReaderSteps remaining failures h xs v new ys in
    let s = subst P e is in
    unsent_switch remaining failures h new xs ys s.0 s.1
unsent_by remaining failures h new xs ys answer ok fed (inr e) is =
    let P : Step → Type 0 = λ v. ReaderSteps remaining failures h xs v new ys in
    let t = subst P e is in
    unsent_turned remaining failures h new xs ys t.0 t.1 ok fed t.2 t.3

-- An input of which nothing is seen, at its place behind the look at it.
pub record WaitsAt {R : Type 0} (remaining : R → Option (List ℕ)) (failures : R → ℕ) (h between : History) (xs ys : List (SerialInput R)) (i : ℕ) (mid : SerialInput R) : Type 0 where
  pub before : SerialInput R
  pub there : slice_get xs i ≡ Some before
  pub running : answers.IsRunning h
  pub unready : IsLeastUnready h i
  pub waits : WaitsOn remaining failures h between i before mid
  pub entries : (y : SerialInput R) → set ys i y ≡ set xs i y

pub waits_at : {R : Type 0} (remaining : R → Option (List ℕ)) (failures : R → ℕ) (h between : History) (xs ys : List (SerialInput R)) (i : ℕ) (mid : SerialInput R) → ReaderHasTurn remaining failures i h xs turn.Waits between ys → mid ≡ get_or ys i mid
    → WaitsAt remaining failures h between xs ys i mid
waits_at {R} remaining failures h between xs ys i mid t value =
    let x = t.before in
    let is : mid ≡ t.after = value ∙ (ap (λ v. get_or v i mid) t.entries ∙ get_or-set_same xs i t.after mid (slice_get_within xs i x t.there)) in
    let W : SerialInput R → Type 0 = WaitsOn remaining failures h between i x in
    record {
      before = x;
      there = t.there;
      running = t.running;
      unready = t.unready;
      waits = subst W (sym is) (waits_on remaining failures h between i x t.after t.unready.unready t.turns);
      entries = λ y. ap (λ v. set v i y) t.entries ∙ set-set xs i t.after y;
    }

-- what is asked for reading on
pub still_unready : {R : Type 0} (remaining : R → Option (List ℕ)) (failures : R → ℕ) (h between : History) (xs ys : List (SerialInput R)) (i : ℕ) (mid : SerialInput R) → WaitsAt remaining failures h between xs ys i mid → IsLeastUnready between i
still_unready remaining failures h between xs ys i mid w = let L : History → Type 0 = λ v. IsLeastUnready v i in subst L (sym w.waits.history) w.unready

pub still_feeds : {R : Type 0} (remaining : R → Option (List ℕ)) (failures : R → ℕ) (h between : History) (xs ys : List (SerialInput R)) (i : ℕ) (mid : SerialInput R) → WaitsAt remaining failures h between xs ys i mid
    → ((starts : List (Option (List ℕ))) × AreFed remaining h.run.schedule h.events starts xs) → (start : Option (List ℕ)) × FeedsOn remaining between.run.schedule between.events i start mid
still_feeds remaining failures h between xs ys i mid w fed =
    let f = fed.1.each i w.before w.there in
    let F : History → Type 0 = λ v. FeedsOn remaining v.run.schedule v.events i f.0 mid in
    (f.0, subst F (sym w.waits.history) (w.waits.feeds f.0 f.2))

-- it was read on, and had its turn
pub unsent_read : {R : Type 0} (remaining : R → Option (List ℕ)) (failures : R → ℕ) (h between new : History) (xs ys : List (SerialInput R)) (i : ℕ) (mid y : SerialInput R) → WaitsAt remaining failures h between xs ys i mid
    → ((e : Event) × (new ≡ with_event between e) × IsOfInput i e) → turns_left i new.events < turns_left i between.events
    → ((start : Option (List ℕ)) → FeedsOn remaining between.run.schedule between.events i start mid → Feeds remaining between.run.schedule new.events i start y)
    → y.inlet.stream.items.limit ≡ mid.inlet.stream.items.limit → ((count : ℕ) → TellsFailures failures count mid.inlet → TellsFailures failures count y.inlet)
    → GoesUnsent remaining failures h new xs (set ys i y)
unsent_read {R} remaining failures h between new xs ys i mid y w event less feeds limit tells =
    let same = w.waits.history in
    let E : History → Type 0 = λ v. (e : Event) × (new ≡ with_event v e) × IsOfInput i e in
    let L : History → Type 0 = λ v. turns_left i new.events < turns_left i v.events in
    let F : History → Type 0 = λ v. (start : Option (List ℕ)) → FeedsOn remaining v.run.schedule v.events i start mid → Feeds remaining v.run.schedule new.events i start y in
    let on = subst F same feeds in
    let U : List (SerialInput R) → Type 0 = GoesUnsent remaining failures h new xs in
    subst U (sym (w.entries y))
    (unsent_input remaining failures h new xs i w.before y w.there w.running w.unready (subst E same event) (subst L same less) (λ start own. on start (w.waits.feeds start own)) (limit ∙ w.waits.limit)
    (λ count before. tells count (w.waits.failures_told count before)))

pub tell_read : {R : Type 0} (remaining : R → Option (List ℕ)) (failures : R → ℕ) (h between : History) (xs ys : List (SerialInput R)) (i : ℕ) (mid y : SerialInput R) → WaitsAt remaining failures h between xs ys i mid
    → ((count : ℕ) → TellsFailures failures count mid.inlet → TellsFailures failures count y.inlet) → (befores : List ℕ) → AllTellFailures failures befores xs → AllTellFailures failures befores (set ys i y)
tell_read {R} remaining failures h between xs ys i mid y w tells befores all =
    let x = w.before in
    let T : List (SerialInput R) → Type 0 = AllTellFailures failures befores in
    subst T (sym (w.entries y)) (all_tell failures befores xs i x y (sym (get_or_from_slice_get xs i x x w.there)) (λ count before. tells count (w.waits.failures_told count before)) all)

-- it was read on, and that ended the run
pub halted_read : {R : Type 0} (remaining : R → Option (List ℕ)) (failures : R → ℕ) (limit : InputLimit) (h between : History) (starts : List (Option (List ℕ))) (xs ys : List (SerialInput R)) (i : ℕ) (mid y : SerialInput R) → WaitsAt remaining failures h between xs ys i mid
    → ((y.inlet.report.stopped ≡ Some Memory) ⊎ (y.inlet.report.stopped ≡ mid.inlet.report.stopped)) → y.inlet.stream.items.limit ≡ mid.inlet.stream.items.limit → ((start : Option (List ℕ)) → FeedsOn remaining between.run.schedule between.events i start mid → HasFed remaining between.run.schedule between.events i start y)
    → AreFed remaining h.run.schedule h.events starts xs → AreLimited limit h.run.schedule xs → AreHalted remaining limit h.run.schedule h.events starts (set ys i y)
halted_read {R} remaining failures limit h between starts xs ys i mid y w stop size given fed limited =
    let x = w.before in
    let F : History → Type 0 = λ v. (start : Option (List ℕ)) → FeedsOn remaining v.run.schedule v.events i start mid → HasFed remaining v.run.schedule v.events i start y in
    let on = subst F w.waits.history given in
    let H : List (SerialInput R) → Type 0 = AreHalted remaining limit h.run.schedule h.events starts in
    let own : (y.inlet.report.stopped ≡ Some Memory) ⊎ (y.inlet.report.stopped ≡ x.inlet.report.stopped) = elim stop [ inl memory ↦ inl memory | inr same ↦ inr (same ∙ w.waits.stopped) ] in
    subst H (sym (w.entries y))
    (halted_looked remaining limit h.run.schedule h.events i starts xs x y (sym (get_or_from_slice_get xs i x x w.there)) (slice_get_within xs i x w.there) w.unready.unready own (size ∙ w.waits.limit) fed limited (λ start own. on start (w.waits.feeds start own)))

pub unrefused_read : {R : Type 0} (remaining : R → Option (List ℕ)) (failures : R → ℕ) (h between : History) (starts : List (Option (List ℕ))) (xs ys : List (SerialInput R)) (i : ℕ) (mid y : SerialInput R) → WaitsAt remaining failures h between xs ys i mid
    → y.inlet.report.stopped ≡ mid.inlet.report.stopped → AreFed remaining h.run.schedule h.events starts xs → AreUnrefused (set ys i y)
unrefused_read {R} remaining failures h between starts xs ys i mid y w stopped fed =
    let x = w.before in
    let A : List (SerialInput R) → Type 0 = AreUnrefused in
    subst A (sym (w.entries y)) (unrefused_looked remaining h.run.schedule h.events i starts xs x y (sym (get_or_from_slice_get xs i x x w.there)) (slice_get_within xs i x w.there) (stopped ∙ w.waits.stopped) fed)

-- The run goes on.

pub runs_unsent : {R : Type 0} (remaining : R → Option (List ℕ)) (failures : R → ℕ) (run : Run) (limit : InputLimit) (starts : List (Option (List ℕ))) (old new : SerialRun R) → IsRunning remaining run limit starts old
    → GoesUnsent remaining failures old.mux new.mux old.inputs.items new.inputs.items → 0 < length new.piece.items → new.output ≡ record old.output { writer = new.output.writer } → IsRunning remaining run limit starts new
runs_unsent remaining failures run limit starts old new is u piece output =
    let p = run.schedule in
    let schedule = ap (λ (r : Run). r.schedule) is.run_is in
    let F : ScheduleValue → Type 0 = λ q. AreFed remaining q old.mux.events starts old.inputs.items → AreFed remaining q new.mux.events starts new.inputs.items in
    let N : Run → Type 0 = λ r. TakesAsNeeded r old.mux.events → TakesAsNeeded r new.mux.events in
    let E : ScheduleValue → Type 0 = λ q. emitted q new.mux.events ≡ emitted q old.mux.events in
    let A : List (List ℕ) → Type 0 = HasAnalysed old.output p.first.request.rate p.first.request.watch in
    let O : SlotWriter → Type 0 = λ w. HasAnalysed w p.first.request.rate p.first.request.watch (emitted p new.mux.events) in
    let seen = subst A (sym (subst E schedule u.out)) is.analysed in
    record {
      run_is = u.run ∙ is.run_is;
      fed = subst F schedule (u.fed starts) is.fed;
      limited = u.limited limit p is.limited;
      piece = piece;
      needed = subst N is.run_is u.needed is.needed;
      analysed = subst O (sym output) (record { seen = seen.seen; rate_is = seen.rate_is; period_is = seen.period_is; faults_are = seen.faults_are; reported = seen.reported });
    }

-- what waited went on, or a beginning of it, and nothing else
pub written_unsent : (old new : List (List ℕ)) (before a b : Option (List ℕ)) (waiting now : List ℕ) → new ≡ old → Sends before a (bytes_of old) waiting → Sends a b waiting now → Sends before b (bytes_of new) now
written_unsent old new before a b waiting now same first second =
    let P : List (List ℕ) → Type 0 = λ v. Sends before b (bytes_of v) now in
    subst P (sym same) (first.0 ++ second.0, appends_on before a b first.0 second.0 first.1 second.1, first.2 ∙ ap (λ v. first.0 ++ v) second.2 ∙ sym (append_assoc first.0 second.0 now))

pub begun_unsent : (old new : List (List ℕ)) (before a b : Option (List ℕ)) (waiting : List ℕ) → new ≡ old → Sends before a (bytes_of old) waiting → SendsBeginning a b waiting → SendsBeginning before b (bytes_of new)
begun_unsent old new before a b waiting same first second =
    let P : List (List ℕ) → Type 0 = λ v. SendsBeginning before b (bytes_of v) in
    let s = second.1 in
    subst P (sym same) (second.0, (first.0 ++ s.0, appends_on before a b first.0 s.0 first.1 s.1, first.2 ∙ ap (λ v. first.0 ++ v) s.2 ∙ sym (append_assoc first.0 s.0 second.0)))

-- The run is over.

pub record IsAtEnd {R : Type 0} (h new : History) (xs ys : List (SerialInput R)) : Type 0 where
  pub history : new ≡ h
  pub inputs : ys ≡ xs
  pub over : IsOver new.run new.events

pub over_by : {R : Type 0} (remaining : R → Option (List ℕ)) (failures : R → ℕ) (h new : History) (xs ys : List (SerialInput R)) (answer : Step) → (answer ≡ steps.Done) ⊎ (answer ≡ steps.RunFull) → ReaderSteps remaining failures h xs answer new ys
    → IsAtEnd h new xs ys
over_by remaining failures h new xs ys answer (inl e) is =
    let P : Step → Type 0 = λ v. ReaderSteps remaining failures h xs v new ys in
    let s = subst P e is in
    let O : History → Type 0 = λ v. IsOver v.run v.events in
    record { history = s.0.0; inputs = s.1; over = subst O (sym s.0.0) (inr s.0.1) }
over_by remaining failures h new xs ys answer (inr e) is =
    let P : Step → Type 0 = λ v. ReaderSteps remaining failures h xs v new ys in
    let s = subst P e is in
    let O : History → Type 0 = λ v. IsOver v.run v.events in
    record { history = s.0.0; inputs = s.1; over = subst O (sym s.0.0) (inl s.0.2) }

pub runs_over : {R : Type 0} (remaining : R → Option (List ℕ)) (run : Run) (limit : InputLimit) (starts : List (Option (List ℕ))) (old new : SerialRun R) → IsRunning remaining run limit starts old → IsAtEnd old.mux new.mux old.inputs.items new.inputs.items
    → new.piece.items ≡ old.piece.items → new.output ≡ old.output → IsRunning remaining run limit starts new
runs_over {R} remaining run limit starts old new is end piece output =
    let p = run.schedule in
    let M : History × List (SerialInput R) → Type 0 = λ v. AreFed remaining p v.0.events starts v.1 × AreLimited limit p v.1 in
    let N : History → Type 0 = λ v. TakesAsNeeded run v.events in
    let A : History × SlotWriter → Type 0 = λ v. HasAnalysed v.1 p.first.request.rate p.first.request.watch (emitted p v.0.events) in
    let L : List ℕ → Type 0 = λ v. 0 < length v in
    let kept = subst M (λ k. (sym end.history k, sym end.inputs k)) (is.fed, is.limited) in
    record {
      run_is = ap (λ (v : History). v.run) end.history ∙ is.run_is;
      fed = kept.0;
      limited = kept.1;
      piece = subst L (sym piece) is.piece;
      needed = subst N (sym end.history) is.needed;
      analysed = subst A (λ k. (sym end.history k, sym output k)) is.analysed;
    }
