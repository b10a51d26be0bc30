-- What the analyser tells of what a run sends, and that equal inputs give equal bytes.
use Rattle.std.proofs.Common.{◌≡◌, ◌⊎◌, ℕ, ◌≤◌, List, [], ◌∷◌, ◌++◌, length, Option, Some, None, refl, ap, ◌∙◌, sym, subst, arith, inl, inr, append_assoc, length-append}
use Rattle.std.proofs.lemmas.Bool.{cases_eq}
use Rattle.std.proofs.lemmas.List.{append-nil}
use Rattle.std.proofs.lemmas.Option.{none-some, same_Some}
use Rattle.std.specs.List.{slice_get}
use Rattle.std.proofs.lemmas.Grind.{flat_map-append}
use Rattle.std.specs.Io.KnownBytes.{Appends}
use Rattle.schedule.specs.Schedule.{ScheduleValue}
use Rattle.mux.specs.declared.event.Event.{Event}
use Rattle.mux.specs.declared.event.Event.TheVariants.{Took, Full, Early, Close, Slot, Switch}
use Rattle.schedule.specs.Laws.{IsMultiplexSchedule}
use Rattle.mux.specs.History.{History, Run, slots, sent, emitted}
use Rattle.mux.specs.Faithful.{PacketLists, IsFaithful, IsRunOf, IsFinished, IsPrefix}
use Rattle.mux.proofs.Same.{outputs_agree}
use Rattle.mux.proofs.Emitted.{length-emitted}
use Rattle.mux.proofs.Ends.{output_is_unique}
use Rattle.mux.proofs.Plans.{known_of, streams_of}
use Rattle.schedule.specs.Streams.{all_streams}
use Rattle.output_faults.proofs.OutputFaultLaws.{sync_stands, taken_judged}
use Rattle.output_faults.proofs.ScheduleTold.{all_sound_of, judged_of}
use Rattle.output_faults.proofs.PlanTold.{no_table_fault}
use Rattle.reading.specs.declared.stop.Stop.{Stop}
use Rattle.reading.specs.declared.stop.Stop.TheVariants.{Gate, ReadFailed, TooMuch, Memory}
use Rattle.outcome.specs.declared.summary.InputSummary.{InputSummary}
use Rattle.outcome.specs.declared.summary.Summary.{Summary}
use Rattle.outcome.specs.Outcome.{stops_of}
use Rattle.outcome.specs.Giving.{packet_lists}
use Rattle.outcome.proofs.ListLaws.{from_map}
use Rattle.outlet.specs.Sending.{bytes_of}
use Rattle.outcome.specs.OutputFaults.{AnalyserTellsOnlyWhatWasTaken, packets_taken_for}
use Rattle.outcome.specs.EqualOutput.{HasRunUnfailed, UnfailedInputsGiveAll, BegunBytesBeginTheOutput, BegunBytesBeginEveryHistory, EqualInputsGiveEqualBytes, BytesAreOfEveryHistory}

pub only_what_was_taken : AnalyserTellsOnlyWhatWasTaken
only_what_was_taken h period sound =
    let s = h.run.schedule in
    let rate = s.first.request.rate in
    let out = emitted s h.events in
    let known = known_of s sound.schedule in
    record {
      sync = sync_stands rate period out (all_sound_of s known out sound.emission);
      tables = no_table_fault s known period out sound.emission;
      counters = taken_judged (all_streams s) rate period out (packets_taken_for h) (judged_of s known (streams_of s sound.schedule) out sound.emission) (λ st listed. (sent st h.events, sound.counters st listed));
    }

-- a history that is faithful to lists is so to lists with the same packets
faithful_same : (schedule : ScheduleValue) (xs ys : PacketLists) → ((i : ℕ) → xs i ≡ ys i) → (h : List Event) → IsFaithful schedule xs h → IsFaithful schedule ys h
faithful_same schedule xs ys same [] is = tt
faithful_same schedule xs ys same (Took i item ∷ h) is = (faithful_same schedule xs ys same h is.0, (is.1.0, sym (same i) ∙ is.1.1))
faithful_same schedule xs ys same (Full i st ∷ h) is = (faithful_same schedule xs ys same h is.0, (is.1.0, (is.1.1.0, sym (same i) ∙ is.1.1.1), is.1.2))
faithful_same schedule xs ys same (Early i ∷ h) is = (faithful_same schedule xs ys same h is.0, (is.1.0, (is.1.1.0, sym (same i) ∙ is.1.1.1), is.1.2))
faithful_same schedule xs ys same (Close i ∷ h) is = (faithful_same schedule xs ys same h is.0, sym (same i) ∙ is.1)
faithful_same schedule xs ys same (Slot c ∷ h) is = faithful_same schedule xs ys same h is
faithful_same schedule xs ys same (Switch number ∷ h) is = faithful_same schedule xs ys same h is

-- nothing but the run's end stopped an input
not_stopped : (stops : List (Option Stop)) (cause : Stop) → (cause ≡ Gate → ⊥) → ((i : ℕ) (stopped : Option Stop) → slice_get stops i ≡ Some stopped → (stopped ≡ None) ⊎ (stopped ≡ Some Gate))
    → (i : ℕ) → slice_get stops i ≡ Some (Some cause) → ⊥
not_stopped stops cause other unfailed i at =
    elim (unfailed i (Some cause) at) [
      | inl e ↦ none-some cause (sym e)
      | inr e ↦ other (same_Some cause Gate e)
    ]

pub give_all : UnfailedInputsGiveAll
give_all schedule starts lefts stops h takes unfailed =
    faithful_same schedule takes.0 (packet_lists schedule starts)
    (λ i.
    let gives = (takes.1 i).given (not_stopped stops Memory (λ bad. cc) unfailed i) in
    gives.whole (not_stopped stops ReadFailed (λ bad. cc) unfailed i) (not_stopped stops TooMuch (λ bad. cc) unfailed i)) h takes.2

-- it is lawful, and takes the inputs' packets in their order
run_of : (h : History) (starts : List (Option (List ℕ))) (before after : Option (List ℕ)) (s : Summary) → HasRunUnfailed h starts before after s → IsRunOf h.run.schedule (packet_lists h.run.schedule starts) h.events
run_of h starts before after s r =
    let takes = r.runs.faithful r.known in
    let inputs = s.inputs.items in
    let stop : InputSummary → Option Stop = λ x. x.report.stopped in
    record {
      lawful = r.runs.sound.run.lawful;
      faithful = give_all h.run.schedule starts r.lefts (stops_of inputs) h.events (takes.0, λ i. record { given = λ other. takes.1 i; begins = (takes.1 i).begins }, takes.2)
          (λ i stopped at.
          let l = from_map stop inputs i stopped at in
          let P : Option Stop → Type 0 = λ v. (v ≡ None) ⊎ (v ≡ Some Gate) in
          subst P l.2 (r.unfailed i l.0 l.1));
    }

pub of_every_history : BytesAreOfEveryHistory
of_every_history h starts before after s other r run finished =
    let lists = packet_lists h.run.schedule starts in
    let packets = output_is_unique h.run.schedule lists h.run.limit h.events other r.runs.sound.schedule (run_of h starts before after s r) r.runs.finished run finished in
    subst (λ (v : List (List ℕ)). Appends before after (bytes_of v)) packets r.runs.written

pub equal_bytes : EqualInputsGiveEqualBytes
equal_bytes h g starts before after old new s t same r q =
    let p = h.run.schedule in
    let lists = packet_lists p starts in
    let run = subst (λ (x : Run). IsRunOf x.schedule (packet_lists x.schedule starts) g.events) (sym same) (run_of g starts old new t q) in
    let finished = subst (λ (x : Run). IsFinished x.schedule x.limit g.events) (sym same) q.runs.finished in
    let packets = output_is_unique p lists h.run.limit h.events g.events r.runs.sound.schedule (run_of h starts before after s r) r.runs.finished run finished in
    let bytes = subst (λ (x : Run). Appends old new (bytes_of (emitted x.schedule g.events))) (sym same) q.runs.written in
    (packets ∙ ap (λ (x : Run). emitted x.schedule g.events) same, (bytes_of (emitted p g.events), of_every_history h starts before after s g.events r run finished, bytes))

-- What a run that failed began to write.

-- a history that is finished at n is so at as many slots as another has, where that isn't behind it
finished_there : (p : ScheduleValue) (a b : List Event) (n : ℕ) → slots a ≤ n → slots b ≤ slots a → IsFinished p n b → IsFinished p (slots a) b
finished_there p a b n few less (inl full) = inl (omega (arith, few, less, full))
finished_there p a b n few less (inr done) =
    elim (cases_eq (slots b) (slots a)) [
      | inl same ↦ inl same
      | inr ne ↦ inr (omega (arith, ne, less), done.1)
    ]

-- what goes out of a history begins what goes out of one that is finished
begun_prefix : (p : ScheduleValue) (lists : PacketLists) (a b : List Event) (n : ℕ) → IsMultiplexSchedule p → IsRunOf p lists a → slots a ≤ n → IsRunOf p lists b → IsFinished p n b → IsPrefix (emitted p a) (emitted p b)
begun_prefix p lists a b n schedule first few second finished =
    elim (outputs_agree p lists a b schedule first second) [
      | inl is ↦ is
      | inr is ↦
          (let size = ap length is.1 in
          let parts = length-append (emitted p b) is.0 in
          let less : slots b ≤ slots a = omega (arith, size, parts, length-emitted p a, length-emitted p b) in
          let one = output_is_unique p lists (slots a) a b schedule first (inl refl) second (finished_there p a b n few less finished) in
          ([], sym one ∙ sym (append-nil (emitted p a))))
    ]

pub begins_every_history : BegunBytesBeginEveryHistory
begins_every_history h starts before after other b run finished =
    let p = h.run.schedule in
    let w = b.written in
    let first : IsRunOf p (packet_lists p starts) h.events = record { lawful = b.sound.run.lawful; faithful = b.faithful } in
    let more = begun_prefix p (packet_lists p starts) h.events other h.run.limit b.sound.schedule first b.sound.run.within run finished in
    let bytes : bytes_of (emitted p other) ≡ w.1.0 ++ (w.0 ++ bytes_of more.0) =
    ap bytes_of more.1 ∙ flat_map-append (λ (q : List ℕ). q) (emitted p h.events) more.0 ∙ ap (λ v. v ++ bytes_of more.0) w.1.2 ∙ append_assoc w.1.0 w.0 (bytes_of more.0) in
    (w.0 ++ bytes_of more.0, (w.1.0, w.1.1, bytes))

pub begins_the_output : BegunBytesBeginTheOutput
begins_the_output h g starts before after old new s same b r =
    let run = subst (λ (x : Run). IsRunOf x.schedule (packet_lists x.schedule starts) g.events) (sym same) (run_of g starts old new s r) in
    let finished = subst (λ (x : Run). IsFinished x.schedule x.limit g.events) (sym same) r.runs.finished in
    let begun = begins_every_history h starts before after g.events b run finished in
    let A : List ℕ → Type 0 = Appends old new in
    let here : Appends old new (bytes_of (emitted h.run.schedule g.events)) = subst (λ (x : Run). Appends old new (bytes_of (emitted x.schedule g.events))) (sym same) r.runs.written in
    (begun.1.0, begun.0, begun.1.1, subst A begun.1.2 here)
