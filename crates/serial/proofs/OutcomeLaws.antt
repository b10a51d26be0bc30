-- What comes of a run in one thread.
use Rattle.std.proofs.Common.{ℕ, ◌≤◌, ◌≡◌, List, [], ◌++◌, length, map, map-id, Option, Some, refl, ap, ◌∙◌, sym, subst, arith, inl, inr}
use Rattle.std.specs.List.{slice_get}
use Rattle.std.specs.Option.{option_map, option_to_list}
use Rattle.std.proofs.lemmas.List.{length-map, append-nil}
use Rattle.std.proofs.lemmas.Option.{none-some, same_Some, slice_get_within, slice_get-map}
use Rattle.request.specs.Request.{InputValue}
use Rattle.schedule.specs.Schedule.{ScheduleValue}
use Rattle.mux.specs.declared.event.Event.{Event}
use Rattle.mux.specs.History.{Run, taken, is_closed}
use Rattle.schedule.specs.Laws.{IsMultiplexSchedule}
use Rattle.reading.specs.Takeable.{OriginValue, stride_at, framed_at, takeable, origin_of, CountsItems, EndsAtTaken}
use Rattle.reading.specs.declared.input_limit.InputLimit.{InputLimit}
use Rattle.reading.specs.declared.stop.Stop.{Stop}
use Rattle.reading.specs.declared.stop.Stop.TheVariants.{Gate, Memory}
use Rattle.reading.proofs.FailureLaws.{failed_given}
use Rattle.reading.proofs.PacketLaws.{too_much, within_read, counts_told, looked_framed, held_begins, whole_read}
use Rattle.outlet.specs.declared.run_fault.RunFault.{RunFault}
use Rattle.outlet.specs.declared.run_fault.RunFault.TheVariants as run_faults
use Rattle.outcome.specs.Ending.{IsLast, HadMemory, IsTold}
use Rattle.outcome.specs.Outcome.{FailuresAreTold}
use Rattle.outcome.specs.declared.ended.Ended.{Ended}
use Rattle.outcome.specs.declared.summary.InputSummary.{InputSummary}
use Rattle.outcome.specs.declared.summary.Summary.{Summary}
use Rattle.outcome.proofs.ListLaws.{from_map, get_within}
use Rattle.outcome.proofs.KnownLaws.{framed_all}
use Rattle.outcome.proofs.SoundLaws.{sound_nothing}
use Rattle.outcome.proofs.ReportLaws.{gate_or_open, last_counts}
use Rattle.outcome.proofs.ServedLaws.{IsServed}
use Rattle.outcome.proofs.OutcomeLaws as outcome
use Rattle.outcome.proofs.OutcomeLaws.{AreRead, IsDone, IsBroken, unread, read_nothing, unread_had_memory}
use Rattle.outcome.proofs.WrittenLaws.{nothing_sent}
use Rattle.serial.specs.Ending.{ended_of}
use Rattle.serial.specs.Feeding.{SerialInput, Feeds, HasFed, AreUnrefused, AllTellFailures}
use Rattle.serial.specs.Running.{AreFed, IsRunning, IsHalted, AreHalted}
use Rattle.serial.specs.Outcome.{IsCountedInTurn, AreCountedInTurn, HasRun, HasBegun}
use Rattle.serial.specs.declared.serial_run.SerialRun.{SerialRun}
use Rattle.serial.proofs.FeedingLaws.{waited_for}
use Rattle.serial.proofs.HaltedLaws.{halted_running}

-- ---- an input, as any run leaves one

-- what came of it is what it gave, and what it holds
served : {R : Type 0} (remaining : R → Option (List ℕ)) (p : ScheduleValue) (h : List Event) (i : ℕ) (start : Option (List ℕ)) (x : SerialInput R) → HasFed remaining p h i start x → (x.inlet.report.stopped ≡ Some Gate → ⊥)
    → IsServed x.inlet.stream.items.limit p h i x.inlet.origin start (remaining x.inlet.stream.source) x.inlet.report
served remaining p h i start x f unleft =
    let r = f.given.read in
    let given = taken i h in
    let came = given ++ option_to_list x.inlet.held in
    record {
      bytes = r.0;
      read = r.1;
      came = came;
      begins = held_begins remaining p x.inlet r.0 given r.2;
      looked = r.2.0;
      framing = looked_framed remaining p x.inlet r.0 given r.2;
      counts = r.2.1.counts;
      behind = [];
      looked_is = r.2.1.given_is ∙ sym (append-nil came);
      shown = x.inlet.held;
      rest = [];
      came_is = sym (append-nil came);
      notes = f.notes;
      shut = λ shut. record { unshown = (f.over (f.closed ∙ shut)).held; none_left = refl; none_behind = λ had. refl };
      unclosed = λ e. absurd (unleft e);
      whole = λ shut e.
          let spent = f.over (f.closed ∙ shut) in
          let w = whole_read remaining p x.inlet r.0 given r.2 spent e in
          record { came_is = ap (λ v. given ++ option_to_list v) spent.held ∙ append-nil given ∙ w.given_is; counts = w.counts; at_end = w.at_end };
      failed = failed_given remaining p x.inlet r.0 given r.2;
      told = counts_told remaining p x.inlet r.0 given r.2;
      too_much = too_much remaining p x.inlet r.0 given r.2;
      within = within_read remaining p x.inlet r.0 given r.2;
    }

-- the origin of an input that is fed is that of the schedule's input
origin_same : {R : Type 0} (remaining : R → Option (List ℕ)) (p : ScheduleValue) (h : List Event) (i : ℕ) (input : InputValue) (start : Option (List ℕ)) (x : SerialInput R)
    → slice_get p.first.request.inputs i ≡ Some input → HasFed remaining p h i start x → x.inlet.origin ≡ origin_of i input
origin_same remaining p h i input start x at f = (let o = f.given.origin in o.3 ∙ ap (origin_of i) (same_Some o.0 input (sym o.1 ∙ at)))

pub are_read : {R : Type 0} (remaining : R → Option (List ℕ)) (failures : R → ℕ) (limit : InputLimit) (p : ScheduleValue) (h : List Event) (readers : List R) (inputs : List (SerialInput R))
    → AreHalted remaining limit p h (map remaining readers) inputs → AllTellFailures failures (map failures readers) inputs → AreRead remaining failures (λ (r : R). r) limit p h readers (map ended_of inputs)
are_read {R} remaining failures limit p h readers inputs are tell i input at =
    let x = get_within inputs i (omega (arith, slice_get_within p.first.request.inputs i input at, are.count)) in
    let f = are.fed i x.0 x.1 in
    let r = from_map remaining readers i f.0 f.1 in
    let one : SerialInput R → Ended R = ended_of in
    let origin = origin_same remaining p h i input f.0 x.0 at f.2 in
    let told = tell i x.0 (failures r.0) x.1 (slice_get-map failures readers i ∙ ap (option_map failures) r.1) in
    record {
      reader = r.0;
      reader_is = r.1;
      end = ended_of x.0;
      end_is = slice_get-map one inputs i ∙ ap (option_map one) x.1;
      closed = f.2.closed;
      served = subst (λ (v : ℕ × OriginValue × Option (List ℕ)). IsServed v.0 p h i v.1 v.2 (remaining x.0.inlet.stream.source) x.0.inlet.report) (λ k. (are.limited i input x.0 at x.1 k, origin k, sym r.2 k))
          (served remaining p h i f.0 x.0 f.2 (are.each i x.0 x.1).unleft);
      told = (told.told, told.untold);
    }

-- no input of a run that goes on was given up for want of memory
had_memory : {R : Type 0} (inputs : List (SerialInput R)) → AreUnrefused inputs → HadMemory (map ended_of inputs)
had_memory {R} inputs unrefused i e at wanted =
    let one : SerialInput R → Ended R = ended_of in
    let l = from_map one inputs i e at in
    unrefused i l.0 l.1 (ap (λ (v : Ended R). v.report.stopped) l.2 ∙ wanted)

-- ---- a run that ended

counted : {R : Type 0} (remaining : R → Option (List ℕ)) (p : ScheduleValue) (h : List Event) (i : ℕ) (input : InputValue) (start : Option (List ℕ)) (x : SerialInput R) (s : InputSummary) (all : List ℕ)
    → slice_get p.first.request.inputs i ≡ Some input → Feeds remaining p h i start x → IsLast x.is_closed x.inlet.report s.report → start ≡ Some all → IsCountedInTurn p h i input all s
counted remaining p h i input start x s all at f last known =
    let o = f.given.origin in
    let origin : x.inlet.origin ≡ origin_of i input = o.3 ∙ ap (origin_of i) (same_Some o.0 input (sym o.1 ∙ at)) in
    let r = f.given.read in
    let items = r.2.0 in
    let framing = framed_all (stride_at x.inlet.origin) start (remaining x.inlet.stream.source) r.0 all items known r.1 (looked_framed remaining p x.inlet r.0 (taken i h) r.2) in
    let C : OriginValue → Type 0 = λ v. CountsItems p v items s.report in
    let E : OriginValue → Type 0 = λ v. EndsAtTaken p v items in
    record {
      looked = items;
      later = framing.0;
      framing = framing.1 ∙ ap (λ v. framed_at v all) origin;
      counts = subst C origin (last_counts x.is_closed x.inlet.report s.report last p x.inlet.origin items r.2.1.counts);
      held = x.inlet.held;
      taken_is = ap (λ v. takeable p v items) (sym origin) ∙ r.2.1.given_is;
      closed = λ e. (f.over (f.closed ∙ e)).held;
      left = λ e.
          elim (gate_or_open x.is_closed x.inlet.report s.report last e) [
            | inl gate ↦ absurd (f.own.unleft gate)
            | inr opened ↦ subst E origin (f.stands opened)
          ];
    }

all_counted : {R : Type 0} (remaining : R → Option (List ℕ)) (p : ScheduleValue) (h : List Event) (starts : List (Option (List ℕ))) (inputs : List (SerialInput R)) (summaries : List InputSummary) → AreFed remaining p h starts inputs
    → ((i : ℕ) (e : Ended R) (s : InputSummary) → slice_get (map ended_of inputs) i ≡ Some e → slice_get summaries i ≡ Some s → IsLast e.is_closed e.report s.report) → AreCountedInTurn p h starts summaries
all_counted {R} remaining p h starts inputs summaries fed last i input all s at from told =
    let x = get_within inputs i (omega (arith, slice_get_within p.first.request.inputs i input at, fed.count)) in
    let f = fed.each i x.0 x.1 in
    let one : SerialInput R → Ended R = ended_of in
    counted remaining p h i input f.0 x.0 s all at f.2 (last i (one x.0) s (slice_get-map one inputs i ∙ ap (option_map one) x.1) told) (same_Some f.0 (Some all) (sym f.1 ∙ from))

-- what is told of it is so
module _ {R : Type 0} (remaining : R → Option (List ℕ)) (failures : R → ℕ) (run : Run) (limit : InputLimit) (readers : List R) (r : SerialRun R) (s : Summary) (sources : List R)
    (is : IsRunning remaining run limit (map remaining readers) r) (tell : AllTellFailures failures (map failures readers) r.inputs.items) (told : IsTold r.mux.run.schedule r.mux.events (map ended_of r.inputs.items) r.output s sources) where
  told_here : IsTold run.schedule r.mux.events (map ended_of r.inputs.items) r.output s sources
  told_here = (let T : Run → Type 0 = λ v. IsTold v.schedule r.mux.events (map ended_of r.inputs.items) r.output s sources in subst T is.run_is told)

  count : length (map ended_of r.inputs.items) ≡ length run.schedule.first.request.inputs
  count = (let one : SerialInput R → Ended R = ended_of in length-map r.inputs.items one ∙ is.fed.count)

  read_here : AreRead remaining failures (λ (v : R). v) limit run.schedule r.mux.events readers (map ended_of r.inputs.items)
  read_here = are_read remaining failures limit run.schedule r.mux.events readers r.inputs.items (halted_running remaining run limit (map remaining readers) r is) tell

  pub has_run : (before after : Option (List ℕ)) → IsDone run r.mux.events r.output before after → AreUnrefused r.inputs.items → HasRun (record { run = run; events = r.mux.events }) limit (map remaining readers) (map remaining sources) before after s
  has_run before after done unrefused = record {
    run = outcome.has_run remaining failures (λ (v : R). v) limit run r.mux.events readers (map ended_of r.inputs.items) r.output before after s sources read_here count (had_memory r.inputs.items unrefused) done told_here;
    in_turn = all_counted remaining run.schedule r.mux.events (map remaining readers) r.inputs.items s.inputs.items is.fed told_here.inputs.reports;
  }

  -- a failed read is told of an input exactly where its source failed
  pub failures_told : FailuresAreTold failures readers sources s.inputs.items
  failures_told =
      subst (λ (v : List R). FailuresAreTold failures readers v s.inputs.items) (map-id sources)
      (outcome.failures_told remaining failures (λ (v : R). v) limit run.schedule r.mux.events readers (map ended_of r.inputs.items) read_here s.inputs.items sources told_here.inputs count)

-- ---- a run that failed

of_memory : (fault : RunFault) → (fault ≡ run_faults.Write → ⊥) → fault ≡ run_faults.Memory
of_memory run_faults.Write other = absurd (other refl)
of_memory run_faults.Memory other = refl

pub has_begun : {R : Type 0} (remaining : R → Option (List ℕ)) (failures : R → ℕ) (run : Run) (limit : InputLimit) (readers : List R) (h : List Event) (inputs : List (SerialInput R)) (before after : Option (List ℕ)) (fault : RunFault)
    → length readers ≡ length run.schedule.first.request.inputs → IsBroken run h before after → AreHalted remaining limit run.schedule h (map remaining readers) inputs → AllTellFailures failures (map failures readers) inputs
    → (fault ≡ run_faults.Write → AreUnrefused inputs) → HasBegun remaining failures (record { run = run; events = h }) limit readers before after fault
has_begun {R} remaining failures run limit readers h inputs before after fault size broken are tell unrefused =
    let one : SerialInput R → Ended R = ended_of in
    let left : Ended R → R × Option Stop = λ e. (e.lent, e.report.stopped) in
    let b = outcome.broken_giving remaining failures (λ (v : R). v) limit run h readers (map one inputs) before after fault (are_read remaining failures limit run.schedule h readers inputs are tell) (length-map inputs one ∙ are.count ∙ sym size) broken
    (λ i e at wanted. (let l = from_map one inputs i e at in of_memory fault (λ write. unrefused write i l.0 l.1 (ap (λ (v : Ended R). v.report.stopped) l.2 ∙ wanted))))
    (λ i e at wanted. (let l = from_map one inputs i e at in (waited_for run.schedule i h ((are.each i l.0 l.1).refused (ap (λ (v : Ended R). v.report.stopped) l.2 ∙ wanted))).open_)) in
    record {
      run = b.0;
      halted = λ i v at.
          let e = from_map left (map one inputs) i v (ap (λ (xs : List (R × Option Stop)). slice_get xs i) (sym b.1) ∙ at) in
          let l = from_map one inputs i e.0 e.1 in
          let P : R × Option Stop → Type 0 = λ w. IsHalted run.schedule h i w.1 in
          subst P (ap left l.2 ∙ e.2) (are.each i l.0 l.1);
    }

-- a run that could not be opened
pub has_begun_nothing : {R : Type 0} (remaining : R → Option (List ℕ)) (failures : R → ℕ) (run : Run) (limit : InputLimit) (readers : List R) (before : Option (List ℕ)) (fault : RunFault)
    → length readers ≡ length run.schedule.first.request.inputs → IsMultiplexSchedule run.schedule → run.limit ≤ 1099511627776 → HasBegun remaining failures (record { run = run; events = [] }) limit readers before before fault
has_begun_nothing {R} remaining failures run limit readers before fault size schedule few =
    let one : R → Ended R = unread in
    let left : Ended R → R × Option Stop = λ e. (e.lent, e.report.stopped) in
    let broken : IsBroken run [] before before = record { sound = sound_nothing run.schedule run.limit schedule few; needed = tt; written = ([], nothing_sent run.schedule [] before [] refl refl) } in
    let had = unread_had_memory readers in
    let b = outcome.broken_giving remaining failures (λ (v : R). v) limit run [] readers (map one readers) before before fault (read_nothing remaining failures limit run.schedule readers size) (length-map readers one) broken
    (λ i e at wanted. absurd (had i e at wanted)) (λ i e at wanted. refl) in
    record {
      run = b.0;
      halted = λ i v at.
          let e = from_map left (map one readers) i v (ap (λ (xs : List (R × Option Stop)). slice_get xs i) (sym b.1) ∙ at) in
          let l = from_map one readers i e.0 e.1 in
          let P : R × Option Stop → Type 0 = λ w. IsHalted run.schedule [] i w.1 in
          subst P (ap left l.2 ∙ e.2) (record { unleft = λ e. none-some Gate e; refused = λ e. absurd (none-some Memory e) });
    }
