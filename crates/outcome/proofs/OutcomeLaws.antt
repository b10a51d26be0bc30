-- What comes of a run.
use Rattle.std.proofs.Common.{◌≡◌, ℕ, ◌≤◌, false, List, [], length, map, Option, Some, option_map, refl, ap, sym, subst, ◌∙◌, arith, inl, inr}
use Rattle.std.specs.List.{slice_get}
use Rattle.std.specs.Io.KnownBytes.{Appends}
use Rattle.std.proofs.lemmas.Bool.{cases_eq}
use Rattle.std.proofs.lemmas.List.{length-map}
use Rattle.std.proofs.lemmas.Option.{none-some, same_Some, slice_get_within, slice_get-map}
use Rattle.std.proofs.Math.Nat.{min-eq_left}
use Rattle.request.specs.Request.{InputValue}
use Rattle.schedule.specs.Schedule.{ScheduleValue}
use Rattle.mux.specs.declared.event.Event.{Event}
use Rattle.mux.specs.History.{Run, is_closed, slots, emitted}
use Rattle.mux.specs.Faithful.{IsFinished}
use Rattle.mux.specs.Totals.{IsTotals}
use Rattle.mux.specs.Headline.{IsSound}
use Rattle.mux.proofs.Emitted.{length-emitted}
use Rattle.analyse.specs.Faults.{faults}
use Rattle.analyse.specs.ReportValue.{ReportValue}
use Rattle.analyse.specs.FaultReport.{IsReportOf}
use Rattle.reading.specs.Counting.{nothing_counted}
use Rattle.reading.specs.InputLimit.{limit_of_input}
use Rattle.reading.specs.Takeable.{origin_of}
use Rattle.reading.specs.declared.input_limit.InputLimit.{InputLimit}
use Rattle.reading.specs.declared.report.Report.{Report}
use Rattle.reading.specs.declared.stop.Stop.{Stop}
use Rattle.reading.specs.declared.stop.Stop.TheVariants.{ReadFailed, Memory}
use Rattle.outlet.specs.Written.{SendsBeginning}
use Rattle.outlet.specs.Sending.{bytes_of, fault_count, HasAnalysed}
use Rattle.outlet.specs.declared.run_fault.RunFault.{RunFault}
use Rattle.outlet.specs.declared.run_fault.RunFault.TheVariants as run_faults
use Rattle.outlet.specs.declared.slot_writer.SlotWriter.{SlotWriter}
use Rattle.outcome.specs.Taking.{AreBegun, IsOver, TakesAsNeeded}
use Rattle.outcome.specs.Giving.{AreKnown, TakesWhatIsGiven, TakesWhatCame}
use Rattle.outcome.specs.Ending.{IsLast, AreReported, HadMemory, IsTold}
use Rattle.outcome.specs.Outcome.{IsInputSummary, IsReadOn, AreReadOn, stops_of, IsFailureTold, FailuresAreTold, IsLeft, HasRun, HasBroken}
use Rattle.outcome.specs.declared.ended.Ended.{Ended}
use Rattle.outcome.specs.declared.summary.InputSummary.{InputSummary}
use Rattle.outcome.specs.declared.summary.Summary.{Summary}
use Rattle.outcome.proofs.ListLaws.{from_map, get_within}
use Rattle.outcome.proofs.FaultBounds.{few_faults}
use Rattle.outcome.proofs.ReportLaws.{told_stop, told_itself, stopped_before, failure_told}
use Rattle.outcome.proofs.ServedLaws.{IsServed, taken_begins, taken_begun, input_summary, read_on, served_nothing}
use Rattle.outcome.proofs.GivenLaws.{CameOf, takes_what_came, takes_what_is_given}

-- A run read an input from this reader, and left this of it.
pub record IsReadAt {R T : Type 0} (remaining : R → Option (List ℕ)) (failures : R → ℕ) (reader_of : T → R) (limit : InputLimit) (p : ScheduleValue) (h : List Event) (readers : List R) (ended : List (Ended T)) (i : ℕ) (input : InputValue) : Type 0 where
  pub reader : R
  pub reader_is : slice_get readers i ≡ Some reader
  pub end : Ended T
  pub end_is : slice_get ended i ≡ Some end
  pub closed : end.is_closed ≡ is_closed i h
  pub served : IsServed (limit_of_input limit input.size) p h i (origin_of i input) (remaining reader) (remaining (reader_of end.lent)) end.report
  pub told : IsFailureTold failures reader (reader_of end.lent) end.report.stopped

-- the same of all inputs
abbrev pub AreRead : {R T : Type 0} → (R → Option (List ℕ)) → (R → ℕ) → (T → R) → InputLimit → ScheduleValue → List Event → List R → List (Ended T) → Type 0
AreRead remaining failures reader_of limit p h readers ended =
    (i : ℕ) (input : InputValue) → slice_get p.first.request.inputs i ≡ Some input → IsReadAt remaining failures reader_of limit p h readers ended i input

-- an input as a run leaves it that fails
abbrev pub left_of : {R T : Type 0} → (T → R) → Ended T → R × Option Stop
left_of reader_of e = (reader_of e.lent, e.report.stopped)

-- An input of a run that ended, and what is told of it.
record IsToldAt {R T : Type 0} (remaining : R → Option (List ℕ)) (failures : R → ℕ) (reader_of : T → R) (limit : InputLimit) (p : ScheduleValue) (h : List Event) (readers : List R) (ended : List (Ended T)) (summaries : List InputSummary) (lent : List T) (i : ℕ) (input : InputValue) : Type 0 where
  x : IsReadAt remaining failures reader_of limit p h readers ended i input
  start_is : slice_get (map remaining readers) i ≡ Some (remaining x.reader)
  left_is : slice_get (map (λ l. remaining (reader_of l)) lent) i ≡ Some (remaining (reader_of x.end.lent))
  came_back : slice_get (map reader_of lent) i ≡ Some (reader_of x.end.lent)
  told : InputSummary
  told_is : slice_get summaries i ≡ Some told
  last : IsLast (is_closed i h) x.end.report told.report
  totals : IsTotals p i h told.totals

lent_at : {T X : Type 0} (f : T → X) (ended : List (Ended T)) (lent : List T) (i : ℕ) (e : Ended T) → lent ≡ map (λ x. x.lent) ended → slice_get ended i ≡ Some e → slice_get (map f lent) i ≡ Some (f e.lent)
lent_at {T} f ended lent i e is at =
    let one : Ended T → T = λ x. x.lent in
    slice_get-map f lent i ∙ ap (option_map f) (ap (λ (v : List T). slice_get v i) is ∙ slice_get-map one ended i ∙ ap (option_map one) at)

-- A run that read all inputs.
module _ {R T : Type 0} (remaining : R → Option (List ℕ)) (failures : R → ℕ) (reader_of : T → R) (limit : InputLimit) (p : ScheduleValue) (h : List Event) (readers : List R) (ended : List (Ended T)) (each : AreRead remaining failures reader_of limit p h readers ended) where
  -- what was taken of each begins what can be taken of it
  begun : AreBegun p h (map remaining readers)
  begun i input all at start =
      let x = each i input at in
      let r = from_map remaining readers i (Some all) start in
      let same : r.0 ≡ x.reader = same_Some r.0 x.reader (sym r.1 ∙ x.reader_is) in
      taken_begun (limit_of_input limit input.size) p h i (origin_of i input) (remaining x.reader) (remaining (reader_of x.end.lent)) x.end.report x.served all (ap remaining (sym same) ∙ r.2)

  is_left : (i : ℕ) (input : InputValue) (old : R) (left : R × Option Stop) → slice_get p.first.request.inputs i ≡ Some input → slice_get readers i ≡ Some old → slice_get (map (left_of reader_of) ended) i ≡ Some left
      → IsLeft remaining failures (limit_of_input limit input.size) p h i input old left
  is_left i input old left at from to =
      let x = each i input at in
      let one : Ended T → R × Option Stop = left_of reader_of in
      let l = from_map one ended i left to in
      let same : x.end ≡ l.0 = same_Some x.end l.0 (sym x.end_is ∙ l.1) in
      let O : R → Type 0 = λ v. IsLeft remaining failures (limit_of_input limit input.size) p h i input v left in
      let L : R × Option Stop → Type 0 = λ v. IsLeft remaining failures (limit_of_input limit input.size) p h i input x.reader v in
      subst O (same_Some x.reader old (sym x.reader_is ∙ from)) (subst L (ap one same ∙ l.2)
      (record {
        bytes = x.served.bytes;
        read = x.served.read;
        begins = taken_begins (limit_of_input limit input.size) p h i (origin_of i input) (remaining x.reader) (remaining (reader_of x.end.lent)) x.end.report x.served;
        told = x.told;
        too_much = x.served.too_much;
        within = x.served.within;
        unclosed = x.served.unclosed;
      }))

  came_left : (i : ℕ) (input : InputValue) → slice_get p.first.request.inputs i ≡ Some input
      → CameOf limit p h (map remaining readers) (map (λ left. remaining left.0) (map (left_of reader_of) ended)) (map (λ left. left.1) (map (left_of reader_of) ended)) i input
  came_left i input at =
      let x = each i input at in
      let one : Ended T → R × Option Stop = left_of reader_of in
      let source : R × Option Stop → Option (List ℕ) = λ left. remaining left.0 in
      let stop : R × Option Stop → Option Stop = λ left. left.1 in
      let left_at : slice_get (map one ended) i ≡ Some (one x.end) = slice_get-map one ended i ∙ ap (option_map one) x.end_is in
      let stop_is : slice_get (map stop (map one ended)) i ≡ Some x.end.report.stopped = slice_get-map stop (map one ended) i ∙ ap (option_map stop) left_at in
      record {
        start = remaining x.reader;
        left = remaining (reader_of x.end.lent);
        report = x.end.report;
        served = x.served;
        start_is = slice_get-map remaining readers i ∙ ap (option_map remaining) x.reader_is;
        left_is = slice_get-map source (map one ended) i ∙ ap (option_map source) left_at;
        told = told_itself (slice_get (map stop (map one ended)) i) x.end.report.stopped stop_is;
        wanted = λ e. stop_is ∙ ap Some e;
      }

-- What is told of a run that ended is so.
module _ {R T : Type 0} (remaining : R → Option (List ℕ)) (failures : R → ℕ) (reader_of : T → R) (limit : InputLimit) (p : ScheduleValue) (h : List Event) (readers : List R) (ended : List (Ended T)) (each : AreRead remaining failures reader_of limit p h readers ended)
    (summaries : List InputSummary) (lent : List T) (reported : AreReported p h ended summaries lent) (count : length ended ≡ length p.first.request.inputs) where
  told_at : (i : ℕ) (input : InputValue) → slice_get p.first.request.inputs i ≡ Some input → IsToldAt remaining failures reader_of limit p h readers ended summaries lent i input
  told_at i input at =
      let x = each i input at in
      let told = get_within summaries i (omega (arith, slice_get_within p.first.request.inputs i input at, reported.length_is, count)) in
      let source : T → Option (List ℕ) = λ l. remaining (reader_of l) in
      record {
        x = x;
        start_is = slice_get-map remaining readers i ∙ ap (option_map remaining) x.reader_is;
        left_is = lent_at source ended lent i x.end reported.lent_is x.end_is;
        came_back = lent_at reader_of ended lent i x.end reported.lent_is x.end_is;
        told = told.0;
        told_is = told.1;
        last = subst (λ b. IsLast b x.end.report told.0.report) x.closed (reported.reports i x.end told.0 x.end_is told.1);
        totals = reported.totals i told.0 told.1;
      }

  -- the same where only its summary is known
  told_of : (i : ℕ) (s : InputSummary) → slice_get summaries i ≡ Some s → (input : InputValue) × (t : IsToldAt remaining failures reader_of limit p h readers ended summaries lent i input) × (t.told ≡ s)
  told_of i s at =
      let input = get_within p.first.request.inputs i (omega (arith, slice_get_within summaries i s at, reported.length_is, count)) in
      let t = told_at i input.0 input.1 in
      (input.0, t, same_Some t.told s (sym t.told_is ∙ at))

  summary_at : HadMemory ended → (i : ℕ) (input : InputValue) (start : Option (List ℕ)) (s : InputSummary) → slice_get p.first.request.inputs i ≡ Some input → slice_get (map remaining readers) i ≡ Some start → slice_get summaries i ≡ Some s
      → IsInputSummary (limit_of_input limit input.size) p h i input start s
  summary_at had i input start s at from told =
      let t = told_at i input at in
      let x = t.x in
      let first : remaining x.reader ≡ start = same_Some (remaining x.reader) start (sym t.start_is ∙ from) in
      let mine : t.told ≡ s = same_Some t.told s (sym t.told_is ∙ told) in
      subst (λ (v : Option (List ℕ) × InputSummary). IsInputSummary (limit_of_input limit input.size) p h i input v.0 v.1) (λ k. (first k, mine k))
      (input_summary (limit_of_input limit input.size) p h i input (remaining x.reader) (remaining (reader_of x.end.lent)) x.end.report t.told x.served t.last (had i x.end x.end_is) t.totals)

  all_read_on : AreReadOn limit p h (map remaining readers) (map (λ l. remaining (reader_of l)) lent) summaries
  all_read_on i input start left s at from to told =
      let t = told_at i input at in
      let x = t.x in
      let first : remaining x.reader ≡ start = same_Some (remaining x.reader) start (sym t.start_is ∙ from) in
      let last : remaining (reader_of x.end.lent) ≡ left = same_Some (remaining (reader_of x.end.lent)) left (sym t.left_is ∙ to) in
      let mine : t.told ≡ s = same_Some t.told s (sym t.told_is ∙ told) in
      subst (λ (v : Option (List ℕ) × Option (List ℕ) × InputSummary). IsReadOn (limit_of_input limit input.size) p h i input v.0 v.1 v.2) (λ k. (first k, last k, mine k))
      (read_on (limit_of_input limit input.size) p h i input (remaining x.reader) (remaining (reader_of x.end.lent)) x.end.report t.told x.served t.last)

  came_told : HadMemory ended → (i : ℕ) (input : InputValue) → slice_get p.first.request.inputs i ≡ Some input → CameOf limit p h (map remaining readers) (map (λ l. remaining (reader_of l)) lent) (stops_of summaries) i input
  came_told had i input at =
      let t = told_at i input at in
      let x = t.x in
      let stop : InputSummary → Option Stop = λ s. s.report.stopped in
      record {
        start = remaining x.reader;
        left = remaining (reader_of x.end.lent);
        report = x.end.report;
        served = x.served;
        start_is = t.start_is;
        left_is = t.left_is;
        told = told_stop (is_closed i h) x.end.report t.told.report (slice_get (stops_of summaries) i) t.last (slice_get-map stop summaries i ∙ ap (option_map stop) t.told_is);
        wanted = λ e. absurd (had i x.end x.end_is e);
      }

  -- no input wanted memory
  none_wanted : HadMemory ended → (i : ℕ) → slice_get (stops_of summaries) i ≡ Some (Some Memory) → is_closed i h ≡ false
  none_wanted had i is =
      let stop : InputSummary → Option Stop = λ s. s.report.stopped in
      let l = from_map stop summaries i (Some Memory) is in
      let t = told_of i l.0 l.1 in
      let told : t.1.told.report.stopped ≡ Some Memory = ap stop t.2 ∙ l.2 in
      let same = stopped_before (is_closed i h) t.1.x.end.report t.1.told.report t.1.last Memory told (λ bad. cc) in
      absurd (had i t.1.x.end t.1.x.end_is (ap (λ (r : Report). r.stopped) (sym same) ∙ told))

  -- a failed read is told of an input exactly where its reader failed
  pub failures_told : FailuresAreTold failures readers (map reader_of lent) summaries
  failures_told i s old new told before after =
      let t = told_of i s told in
      let x = t.1.x in
      let first : x.reader ≡ old = same_Some x.reader old (sym x.reader_is ∙ before) in
      let last : reader_of x.end.lent ≡ new = same_Some (reader_of x.end.lent) new (sym t.1.came_back ∙ after) in
      subst (λ (v : R × R × InputSummary). IsFailureTold failures v.0 v.1 v.2.report.stopped) (λ k. (first k, last k, t.2 k))
      (failure_told (is_closed i h) x.end.report t.1.told.report t.1.last failures x.reader (reader_of x.end.lent) x.told)

-- ---- a run that ended

finished : (run : Run) (h : List Event) → slots h ≤ run.limit → IsOver run h → IsFinished run.schedule run.limit h
finished run h within over =
    elim (cases_eq (slots h) run.limit) [
      | inl e ↦ inl e
      | inr ne ↦ elim over [
        | inl full ↦ absurd (ne (omega (arith, within, full)))
        | inr done ↦ inr (omega (arith, within, ne), done)
      ]
    ]

-- so many faults fit into 64 bits
faults_exact : (run : Run) (h : List Event) (told : ℕ) → slots h ≤ run.limit → run.limit ≤ 1099511627776 → told ≡ fault_count run.schedule.first.request.rate run.schedule.first.request.watch (emitted run.schedule h)
    → told ≡ length (faults run.schedule.first.request.rate run.schedule.first.request.watch (emitted run.schedule h))
faults_exact run h told within few is =
    let bound = few_faults run.schedule.first.request.rate run.schedule.first.request.watch (emitted run.schedule h) in
    let count = length-emitted run.schedule h in
    let all = length (faults run.schedule.first.request.rate run.schedule.first.request.watch (emitted run.schedule h)) in
    let fits : all ≤ 18446744073709551615 = omega (arith, bound, count, within, few) in
    is ∙ min-eq_left fits

-- What a run did that is over: what was taken was needed, and what it sent was analysed, and written.
pub record IsDone (run : Run) (h : List Event) (output : SlotWriter) (before after : Option (List ℕ)) : Type 0 where
  pub few : run.limit ≤ 1099511627776
  pub sound : IsSound (record { run = run; events = h })
  pub over : IsOver run h
  pub needed : TakesAsNeeded run h
  pub analysed : HasAnalysed output run.schedule.first.request.rate run.schedule.first.request.watch (emitted run.schedule h)
  pub written : Appends before after (bytes_of (emitted run.schedule h))

pub has_run : {R T : Type 0} (remaining : R → Option (List ℕ)) (failures : R → ℕ) (reader_of : T → R) (limit : InputLimit) (run : Run) (h : List Event) (readers : List R) (ended : List (Ended T)) (output : SlotWriter) (before after : Option (List ℕ)) (s : Summary) (lent : List T)
    → AreRead remaining failures reader_of limit run.schedule h readers ended → length ended ≡ length run.schedule.first.request.inputs → HadMemory ended → IsDone run h output before after → IsTold run.schedule h ended output s lent
    → HasRun (record { run = run; events = h }) limit (map remaining readers) (map (λ l. remaining (reader_of l)) lent) before after s
has_run remaining failures reader_of limit run h readers ended output before after s lent each count had done told =
    let p = run.schedule in
    let inputs = s.inputs.items in
    let F : ReportValue → Type 0 = λ v. IsReportOf v (faults p.first.request.rate p.first.request.watch (emitted p h)) in
    record {
      sound = done.sound;
      finished = finished run h done.sound.run.within done.over;
      written = done.written;
      begun = begun remaining failures reader_of limit p h readers ended each;
      needed = done.needed;
      faithful = λ known.
          takes_what_is_given limit p h (map remaining readers) (map (λ l. remaining (reader_of l)) lent) (stops_of inputs) (came_told remaining failures reader_of limit p h readers ended each inputs lent told.inputs count had) done.sound.schedule done.sound.run.lawful known
          (none_wanted remaining failures reader_of limit p h readers ended each inputs lent told.inputs count had);
      summary = record {
        length_is = told.inputs.length_is ∙ count;
        inputs = summary_at remaining failures reader_of limit p h readers ended each inputs lent told.inputs count had;
        streams = told.streams;
        counts = told.counts;
        faults = faults_exact run h s.faults done.sound.run.within done.few (told.faults ∙ done.analysed.faults_are);
        reported = subst F (sym told.report) done.analysed.reported;
      };
      read = all_read_on remaining failures reader_of limit p h readers ended each inputs lent told.inputs count;
    }

-- ---- a run that failed

-- What such a run did: what was taken was needed, and a beginning of what it sent was written.
pub record IsBroken (run : Run) (h : List Event) (before after : Option (List ℕ)) : Type 0 where
  pub sound : IsSound (record { run = run; events = h })
  pub needed : TakesAsNeeded run h
  pub written : SendsBeginning before after (bytes_of (emitted run.schedule h))

module _ {R T : Type 0} (remaining : R → Option (List ℕ)) (failures : R → ℕ) (reader_of : T → R) (limit : InputLimit) (run : Run) (h : List Event) (readers : List R) (ended : List (Ended T)) (before after : Option (List ℕ)) (fault : RunFault)
    (each : AreRead remaining failures reader_of limit run.schedule h readers ended)
    (count : length ended ≡ length readers) (broken : IsBroken run h before after) (told : (i : ℕ) (e : Ended T) → slice_get ended i ≡ Some e → e.report.stopped ≡ Some Memory → fault ≡ run_faults.Memory) where
  abbrev lefts : List (R × Option Stop)
  lefts = map (left_of reader_of) ended

  abbrev starts : List (Option (List ℕ))
  starts = map remaining readers

  has_broken : (Takes : ScheduleValue → List (Option (List ℕ)) → List (Option (List ℕ)) → List (Option Stop) → List Event → Type 0)
      → (AreKnown starts → Takes run.schedule starts (map (λ left. remaining left.0) lefts) (map (λ left. left.1) lefts) h)
      → (b : HasBroken Takes remaining failures (record { run = run; events = h }) limit readers before after fault) × (b.lefts ≡ lefts)
  has_broken Takes takes = (
    record {
      sound = broken.sound;
      begun = begun remaining failures reader_of limit run.schedule h readers ended each;
      needed = broken.needed;
      written = broken.written;
      lefts = lefts;
      count = length-map ended (left_of reader_of) ∙ count;
      left = is_left remaining failures reader_of limit run.schedule h readers ended each;
      faithful = takes;
      refused = λ i left at e.
          let l = from_map (left_of reader_of) ended i left at in
          told i l.0 l.1 (ap (λ (v : R × Option Stop). v.1) l.2 ∙ e);
    },
    refl,
  )

  pub broken_taking : (b : HasBroken TakesWhatCame remaining failures (record { run = run; events = h }) limit readers before after fault) × (b.lefts ≡ lefts)
  broken_taking = has_broken TakesWhatCame
      (takes_what_came limit run.schedule h starts (map (λ left. remaining left.0) lefts) (map (λ left. left.1) lefts) (came_left remaining failures reader_of limit run.schedule h readers ended each) broken.sound.schedule broken.sound.run.lawful)

  -- no input was closed that wanted memory
  pub broken_giving : ((i : ℕ) (e : Ended T) → slice_get ended i ≡ Some e → e.report.stopped ≡ Some Memory → is_closed i h ≡ false)
      → (b : HasBroken TakesWhatIsGiven remaining failures (record { run = run; events = h }) limit readers before after fault) × (b.lefts ≡ lefts)
  broken_giving opened = has_broken TakesWhatIsGiven
      (λ known.
      let stop : R × Option Stop → Option Stop = λ left. left.1 in
      let one : Ended T → R × Option Stop = left_of reader_of in
      takes_what_is_given limit run.schedule h starts (map (λ left. remaining left.0) lefts) (map stop lefts) (came_left remaining failures reader_of limit run.schedule h readers ended each) broken.sound.schedule broken.sound.run.lawful known
      (λ i is.
      let l = from_map stop (map one ended) i (Some Memory) is in
      let e = from_map one ended i l.0 l.1 in
      opened i e.0 e.1 (ap stop e.2 ∙ l.2)))

-- ---- a run of which nothing was read

-- an input of which nothing was read
abbrev pub unread : {R : Type 0} → R → Ended R
unread reader = record { report = nothing_counted; is_closed = false; lent = reader }

pub read_nothing : {R : Type 0} (remaining : R → Option (List ℕ)) (failures : R → ℕ) (limit : InputLimit) (p : ScheduleValue) (readers : List R) → length readers ≡ length p.first.request.inputs
    → AreRead remaining failures (λ (r : R). r) limit p [] readers (map unread readers)
read_nothing {R} remaining failures limit p readers count i input at =
    let r = get_within readers i (omega (arith, slice_get_within p.first.request.inputs i input at, count)) in
    let one : R → Ended R = unread in
    record {
      reader = r.0;
      reader_is = r.1;
      end = unread r.0;
      end_is = slice_get-map one readers i ∙ ap (option_map one) r.1;
      closed = refl;
      served = served_nothing (limit_of_input limit input.size) p i (origin_of i input) (remaining r.0);
      told = (λ e. absurd (none-some ReadFailed e), λ other. refl);
    }

pub unread_had_memory : {R : Type 0} (readers : List R) → HadMemory (map unread readers)
unread_had_memory {R} readers i e at wanted =
    let one : R → Ended R = unread in
    let l = from_map one readers i e at in
    none-some Memory (ap (λ (v : Ended R). v.report.stopped) l.2 ∙ wanted)
