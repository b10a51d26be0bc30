-- What comes of a run in threads.
use Rattle.std.proofs.Common.{◌≡◌, ℕ, ◌<◌, ◌≤◌, List, [], length, map, Option, Some, option_map, refl, ap, sym, subst, ◌∙◌, arith, inl, inr, ◌⊎◌}
use Rattle.std.specs.Prelude.{Result, Err, OnOk, OnErr}
use Rattle.std.specs.List.{slice_get, zip}
use Rattle.std.proofs.lemmas.Option.{slice_get_within, slice_get-map}
use Rattle.std.proofs.lemmas.List.{length-map}
use Rattle.std.proofs.lemmas.Slice.Zip.{length-zip}
use Rattle.std.specs.Io.KnownBytes.{Appends}
use Rattle.request.specs.Request.{IsInput}
use Rattle.schedule.specs.Schedule.{ScheduleValue}
use Rattle.reading.specs.Failures.{FailsOnce}
use Rattle.reading.specs.InputLimit.{limit_of_input}
use Rattle.reading.specs.declared.input_limit.InputLimit.{InputLimit}
use Rattle.reading.specs.declared.stop.Stop.{Stop}
use Rattle.mux.specs.declared.event.Event.{Event}
use Rattle.mux.specs.History.{Run, History, emitted}
use Rattle.mux.specs.Headline.{IsSound}
use Rattle.schedule.specs.Laws.{IsMultiplexSchedule}
use Rattle.mux.proofs.Plans.{first_request}
use Rattle.port.specs.Rings.{RingId, PortValue}
use Rattle.worker.proofs.PlanLaws.{all_at}
use Rattle.station.specs.Stations.{Input, StationValue, IsLawfulStation, rings_of}
use Rattle.station.specs.Opening.{IsOpened, IsFresh}
use Rattle.outlet.specs.Sending.{bytes_of, HasAnalysed}
use Rattle.outlet.specs.Written.{Sends, SendsBeginning}
use Rattle.outlet.specs.declared.run_fault.RunFault.{RunFault}
use Rattle.outlet.specs.declared.run_fault.RunFault.TheVariants as run_faults
use Rattle.outlet.specs.declared.slot_writer.SlotWriter.{SlotWriter}
use Rattle.outlet.specs.declared.outlet.Outlet.{Outlet}
use Rattle.outcome.specs.Taking.{IsOver, TakesAsNeeded}
use Rattle.outcome.specs.Ending.{HadMemory, IsTold}
use Rattle.outcome.specs.Outcome.{HasRun, FailuresAreTold}
use Rattle.outcome.specs.declared.ended.Ended.{Ended}
use Rattle.outcome.specs.declared.summary.Summary.{Summary}
use Rattle.outcome.proofs.ListLaws.{get_within}
use Rattle.outcome.proofs.SoundLaws.{sound_nothing}
use Rattle.outcome.proofs.WrittenLaws.{nothing_sent}
use Rattle.outcome.proofs.OutcomeLaws as outcome
use Rattle.outcome.proofs.OutcomeLaws.{AreRead, IsDone, IsBroken, left_of, broken_taking, unread, read_nothing, unread_had_memory}
use Rattle.workers.specs.Crews.{AreUnsent, AreSeated, AreStarted, AreEnded, HaveWorked, WantedMemory}
use Rattle.threaded.specs.Opening.{IsReady}
use Rattle.handing.specs.Driving.{output_of, HasAnalysedAll, IsSameRun, BreaksOff, IsDriven, Drives}
use Rattle.threaded.specs.Outcome.{HasBegun, RunsThrough, IsCutShort}
use Rattle.threaded.proofs.ListLaws.{firsts_at, seconds_at}
use Rattle.outcome.proofs.ResultLaws.{not_write}
use Rattle.threaded.proofs.ResultLaws.{either_part, unless_write, fine_part}
use Rattle.workers.proofs.CrewLaws.{have_worked}
use Rattle.handing.proofs.DrivingLaws.{breaks_either}
use Rattle.workers.specs.declared.run_gate.RunGate.{RunGate}
use Rattle.worker.specs.declared.worker.Worker.{Worker}
use Rattle.threaded.proofs.SentLaws.{settled_input, served}

-- readers, gates and ports of as many inputs
pub record AreOfInputs {R G : Type 0} (n : ℕ) (readers : List R) (gates : List G) (ports : List PortValue) : Type 0 where
  pub readers_are : length readers ≡ n
  pub gates_are : length gates ≡ n
  pub ports_are : length ports ≡ n

abbrev pub seats_of : {R G : Type 0} → List R → List G → List PortValue → List ((R × G) × PortValue)
seats_of readers gates ports = zip (zip readers gates) ports

zip_size : {A B : Type 0} (xs : List A) (ys : List B) (n : ℕ) → length xs ≡ n → length ys ≡ n → length (zip xs ys) ≡ n
zip_size xs ys n a b = omega (arith, length-zip xs ys, a, b)

-- there is a seat an input
pub seats_are : {R G : Type 0} (n : ℕ) (readers : List R) (gates : List G) (ports : List PortValue) → AreOfInputs n readers gates ports → length (seats_of readers gates ports) ≡ n
seats_are n readers gates ports are = zip_size (zip readers gates) ports n (zip_size readers gates n are.readers_are are.gates_are) are.ports_are

pub reader_at : {R G : Type 0} (n : ℕ) (readers : List R) (gates : List G) (ports : List PortValue) (i : ℕ) (seat : (R × G) × PortValue) → AreOfInputs n readers gates ports
    → slice_get (seats_of readers gates ports) i ≡ Some seat → slice_get readers i ≡ Some seat.0.0
reader_at n readers gates ports i seat are at =
    let pairs = zip_size readers gates n are.readers_are are.gates_are in
    firsts_at readers gates i seat.0 (are.gates_are ∙ sym are.readers_are) (firsts_at (zip readers gates) ports i seat (are.ports_are ∙ sym pairs) at)

pub port_at : {R G : Type 0} (n : ℕ) (readers : List R) (gates : List G) (ports : List PortValue) (i : ℕ) (seat : (R × G) × PortValue) → AreOfInputs n readers gates ports
    → slice_get (seats_of readers gates ports) i ≡ Some seat → slice_get ports i ≡ Some seat.1
port_at n readers gates ports i seat are at =
    let pairs = zip_size readers gates n are.readers_are are.gates_are in
    seconds_at (zip readers gates) ports i seat (are.ports_are ∙ sym pairs) at

-- the ports of a station that was opened
pub fresh_at : (p : ScheduleValue) (slots : ℕ) (station : StationValue) (ports : List PortValue) (i : ℕ) (port : PortValue) → IsOpened p slots station ports → slice_get ports i ≡ Some port
    → (x : Input) × (slice_get station.inputs i ≡ Some x) × IsFresh i port x
fresh_at p slots station ports i port is at =
    let inside = slice_get_within ports i port at in
    let x = get_within station.inputs i (omega (arith, inside, is.ports_are, is.inputs_are)) in
    (x.0, x.1, is.each i port x.0 at x.1)

pub are_unsent : {R G : Type 0} (p : ScheduleValue) (slots n : ℕ) (station : StationValue) (readers : List R) (gates : List G) (ports : List PortValue) → IsOpened p slots station ports → AreOfInputs n readers gates ports
    → AreUnsent (seats_of readers gates ports)
are_unsent p slots n station readers gates ports is are i seat at =
    let f = fresh_at p slots station ports i seat.1 is (port_at n readers gates ports i seat are at) in
    f.2.unsent

-- A run that is ready to be started.

pub are_inputs : {R G : Type 0} (p : ScheduleValue) (slots : ℕ) (readers : List R) (gates : List G) (opened : StationValue) (seats : List ((R × G) × PortValue)) (ready : IsReady p slots readers gates opened seats)
    → length readers ≡ length p.first.request.inputs → length gates ≡ length p.first.request.inputs → AreOfInputs (length p.first.request.inputs) readers gates ready.ports
are_inputs p slots readers gates opened seats ready of_readers of_gates = record { readers_are = of_readers; gates_are = of_gates; ports_are = ready.opened.ports_are }

pub ready_count : {R G : Type 0} (p : ScheduleValue) (slots : ℕ) (readers : List R) (gates : List G) (opened : StationValue) (seats : List ((R × G) × PortValue)) → IsReady p slots readers gates opened seats
    → length readers ≡ length p.first.request.inputs → length gates ≡ length p.first.request.inputs → length seats ≡ length p.first.request.inputs
ready_count p slots readers gates opened seats ready of_readers of_gates =
    ap length ready.seats_are ∙ seats_are (length p.first.request.inputs) readers gates ready.ports (are_inputs p slots readers gates opened seats ready of_readers of_gates)

pub ready_unsent : {R G : Type 0} (p : ScheduleValue) (slots : ℕ) (readers : List R) (gates : List G) (opened : StationValue) (seats : List ((R × G) × PortValue)) → IsReady p slots readers gates opened seats
    → length readers ≡ length p.first.request.inputs → length gates ≡ length p.first.request.inputs → AreUnsent seats
ready_unsent {R} {G} p slots readers gates opened seats ready of_readers of_gates =
    let U : List ((R × G) × PortValue) → Type 0 = AreUnsent in
    subst U (sym ready.seats_are) (are_unsent p slots (length p.first.request.inputs) opened readers gates ready.ports ready.opened (are_inputs p slots readers gates opened seats ready of_readers of_gates))

-- each port is of a ring of the station
pub ready_seated : {R G : Type 0} (p : ScheduleValue) (slots : ℕ) (readers : List R) (gates : List G) (opened : StationValue) (seats : List ((R × G) × PortValue)) → IsReady p slots readers gates opened seats
    → length readers ≡ length p.first.request.inputs → length gates ≡ length p.first.request.inputs → AreSeated opened seats
ready_seated {R} {G} p slots readers gates opened seats ready of_readers of_gates i seat at =
    let are = are_inputs p slots readers gates opened seats ready of_readers of_gates in
    let here = ap (λ (v : List ((R × G) × PortValue)). slice_get v i) (sym ready.seats_are) ∙ at in
    let f = fresh_at p slots opened ready.ports i seat.1 ready.opened (port_at (length p.first.request.inputs) readers gates ready.ports i seat are here) in
    let ring_of : Input → RingId = λ x. x.inlet.ring in
    let there : slice_get (rings_of opened.inputs) i ≡ Some seat.1.ring = slice_get-map ring_of opened.inputs i ∙ (ap (option_map ring_of) f.1 ∙ ap Some f.2.ring) in
    let N : ℕ → Type 0 = λ k. slice_get (rings_of opened.inputs) k ≡ Some seat.1.ring in
    subst N (sym f.2.number) there

-- The run's schedule and slots are those of its station.

pub run_is : (p : ScheduleValue) (slots : ℕ) (opened station : StationValue) (ports : List PortValue) → IsOpened p slots opened ports → IsSameRun opened station → station.history.run ≡ record { schedule = p; limit = slots }
run_is p slots opened station ports is same = same.run ∙ ap (λ (h : History). h.run) is.history

-- nothing was taken when it was opened
needed_run : (p : ScheduleValue) (slots : ℕ) (opened station : StationValue) (ports : List PortValue) → IsOpened p slots opened ports → IsSameRun opened station
    → TakesAsNeeded (record { schedule = p; limit = slots }) station.history.events
needed_run p slots opened station ports is same =
    let P : History → Type 0 = λ h. TakesAsNeeded h.run h.events in
    let R : Run → Type 0 = λ r. TakesAsNeeded r station.history.events in
    subst R (run_is p slots opened station ports is same) (same.needed (subst P (sym is.history) tt))

-- nothing was sent when it was opened
nothing_yet : (p : ScheduleValue) (slots : ℕ) (opened : StationValue) (ports : List PortValue) (output : SlotWriter) (first : Option (List ℕ)) → IsOpened p slots opened ports → output.writer ≡ []
    → Sends first first (output_of opened.history) output.writer
nothing_yet p slots opened ports output first is waiting =
    nothing_sent opened.history.run.schedule opened.history.events first output.writer (ap (λ (h : History). h.events) is.history) waiting

analysed_yet : (p : ScheduleValue) (slots : ℕ) (opened : StationValue) (ports : List PortValue) (output : SlotWriter) → IsOpened p slots opened ports → HasAnalysed output p.first.request.rate p.first.request.watch []
    → HasAnalysedAll output opened.history
analysed_yet p slots opened ports output is analysed =
    let P : History → Type 0 = HasAnalysedAll output in
    subst P (sym is.history) analysed

-- The workers of all inputs worked.
module _ {R G : Type 0} (remaining : R → Option (List ℕ)) (failures : R → ℕ) (p : ScheduleValue) (slots : ℕ) (limit : InputLimit) (opened station : StationValue) (readers : List R) (gates : List G) (seats : List ((R × G) × PortValue)) (ended : List (Ended (R × G)))
    (ready : IsReady p slots readers gates opened seats) (of_readers : length readers ≡ length p.first.request.inputs) (of_gates : length gates ≡ length p.first.request.inputs)
    (same : IsSameRun opened station) (sound : IsSound station.history) (kept : IsLawfulStation station.history station.inputs) (have : HaveWorked remaining failures limit p station seats ended) where
  plan_is : station.history.run.schedule ≡ p
  plan_is = ap (λ (r : Run). r.schedule) (run_is p slots opened station ready.ports ready.opened same)

  worked_count : length have.workers ≡ length p.first.request.inputs
  worked_count = have.all ∙ ready_count p slots readers gates opened seats ready of_readers of_gates

  -- as many inputs are told of as the schedule has
  ended_count : length ended ≡ length p.first.request.inputs
  ended_count = have.count ∙ worked_count

  all_read : AreRead remaining failures (λ (l : R × G). l.0) limit p station.history.events readers ended
  all_read i input at =
      let n = length p.first.request.inputs in
      let ports = ready.ports in
      let are = are_inputs p slots readers gates opened seats ready of_readers of_gates in
      let S : List ((R × G) × PortValue) → Type 0 = λ v. AreStarted limit p v have.workers in
      let started = subst S ready.seats_are have.started in
      let inside : i < n = slice_get_within p.first.request.inputs i input at in
      let seat = get_within (seats_of readers gates ports) i (omega (arith, inside, seats_are n readers gates ports are)) in
      let w = get_within have.workers i (omega (arith, inside, worked_count)) in
      let e = get_within ended i (omega (arith, inside, ended_count)) in
      let f = fresh_at p slots opened ports i seat.0.1 ready.opened (port_at n readers gates ports i seat.0 are seat.1) in
      let start = started.each i seat.0 w.0 seat.1 w.1 in
      let end = have.became i w.0 e.0 w.1 e.1 in
      let source : failures w.0.source ≡ failures seat.0.0.0 = ap failures start.source_is in
      let x = settled_input remaining failures limit p station i input seat.0.0.0 seat.0.1 w.0 e.0 start f.2.number at end in
      let schedule : IsMultiplexSchedule p = subst IsMultiplexSchedule plan_is sound.schedule in
      record {
        reader = seat.0.0.0;
        reader_is = reader_at n readers gates ports i seat.0 are seat.1;
        end = e.0;
        end_is = e.1;
        closed = x.1;
        served = served remaining (limit_of_input limit input.size) p station i input seat.0.0.0 e.0.lent.0 e.0.report x.0 (kept.each i x.0.entry x.0.entry_is) plan_is schedule (all_at IsInput p.first.request.inputs i input (first_request p schedule).inputs at);
        told = (λ stopped. subst (λ v. FailsOnce v (failures e.0.lent.0)) source (end.work.failed stopped), λ other. end.work.unfailed other ∙ source);
      }

-- A run that failed.

-- of whose inputs nothing was taken
begun_still : {R : Type 0} (remaining : R → Option (List ℕ)) (failures : R → ℕ) (run : Run) (limit : InputLimit) (readers : List R) (before after : Option (List ℕ)) (failed_before failed_after : ℕ) (fault : RunFault)
    → length readers ≡ length run.schedule.first.request.inputs → IsBroken run [] before after → failed_after ≡ failed_before → HasBegun remaining failures (record { run = run; events = [] }) limit readers before after failed_before failed_after fault
begun_still {R} remaining failures run limit readers before after failed_before failed_after fault size broken unfailed =
    let one : R → Ended R = unread in
    record {
      run = (broken_taking remaining failures (λ (v : R). v) limit run [] readers (map one readers) before after fault (read_nothing remaining failures limit run.schedule readers size) (length-map readers one) broken
          (λ i e at wanted. absurd (unread_had_memory readers i e at wanted))).0;
      wanted = λ is. inl unfailed;
    }

-- that could not be opened
pub begun_nothing : {R : Type 0} (remaining : R → Option (List ℕ)) (failures : R → ℕ) (run : Run) (limit : InputLimit) (readers : List R) (before : Option (List ℕ)) (failed : ℕ) (fault : RunFault)
    → length readers ≡ length run.schedule.first.request.inputs → IsMultiplexSchedule run.schedule → run.limit ≤ 1099511627776 → HasBegun remaining failures (record { run = run; events = [] }) limit readers before before failed failed fault
begun_nothing remaining failures run limit readers before failed fault size schedule few =
    begun_still remaining failures run limit readers before before failed failed fault size
    (record { sound = sound_nothing run.schedule run.limit schedule few; needed = tt; written = ([], nothing_sent run.schedule [] before [] refl refl) }) refl

-- that was opened
module _ {R G : Type 0} (remaining : R → Option (List ℕ)) (failures : R → ℕ) (p : ScheduleValue) (slots : ℕ) (limit : InputLimit) (opened station : StationValue) (readers : List R) (gates : List G) (seats : List ((R × G) × PortValue)) (before after : Option (List ℕ)) (failed_before failed_after : ℕ)
    (ready : IsReady p slots readers gates opened seats) (of_readers : length readers ≡ length p.first.request.inputs) (of_gates : length gates ≡ length p.first.request.inputs)
    (same : IsSameRun opened station) (sound : IsSound station.history) (kept : IsLawfulStation station.history station.inputs) (broken : IsBroken (record { schedule = p; limit = slots }) station.history.events before after) where
  abbrev BegunAt : List Event → RunFault → Type 0
  BegunAt h fault = HasBegun remaining failures (record { run = record { schedule = p; limit = slots }; events = h }) limit readers before after failed_before failed_after fault

  begun_worked : (fault : RunFault) (ended : List (Ended (R × G))) → HaveWorked remaining failures limit p station seats ended → (HadMemory ended ⊎ (fault ≡ run_faults.Memory))
      → (fault ≡ run_faults.Memory → (failed_after ≡ failed_before) ⊎ WantedMemory ended) → BegunAt station.history.events fault
  begun_worked fault ended have had wanted =
      let reader_of : R × G → R = λ l. l.0 in
      let one : Ended (R × G) → R × Option Stop = left_of reader_of in
      let b = broken_taking remaining failures reader_of limit (record { schedule = p; limit = slots }) station.history.events readers ended before after fault
      (all_read remaining failures p slots limit opened station readers gates seats ended ready of_readers of_gates same sound kept have)
      (ended_count remaining failures p slots limit opened station readers gates seats ended ready of_readers of_gates same sound kept have ∙ sym of_readers) broken
      (λ i e at is. elim had [ inl all ↦ absurd (all i e at is) | inr memory ↦ memory ]) in
      record {
        run = b.0;
        wanted = λ is.
            elim (wanted is) [
              | inl unfailed ↦ inl unfailed
              | inr w ↦ inr (w.0, one w.1, ap (λ (xs : List (R × Option Stop)). slice_get xs w.0) b.1 ∙ slice_get-map one ended w.0 ∙ ap (option_map one) w.2, w.3)
            ];
      }

  -- no write failed
  begun_unfailed : failed_after ≡ failed_before → ((ended : List (Ended (R × G))) × HaveWorked remaining failures limit p station seats ended) ⊎ (station ≡ opened) → BegunAt station.history.events run_faults.Memory
  begun_unfailed unfailed (inl have) = begun_worked run_faults.Memory have.0 have.1 (inr refl) (λ is. inl unfailed)
  begun_unfailed unfailed (inr still) =
      let none : station.history.events ≡ [] = ap (λ (s : StationValue). s.history.events) still ∙ ap (λ (h : History). h.events) ready.opened.history in
      let B : List Event → Type 0 = λ h. IsBroken (record { schedule = p; limit = slots }) h before after in
      subst (λ h. BegunAt h run_faults.Memory) (sym none) (begun_still remaining failures (record { schedule = p; limit = slots }) limit readers before after failed_before failed_after run_faults.Memory of_readers (subst B none broken) unfailed)

  begun_memory : ((ended : List (Ended (R × G))) × HaveWorked remaining failures limit p station seats ended) ⊎ (station ≡ opened)
      → ((failed_after ≡ failed_before) ⊎ ((ended : List (Ended (R × G))) × HaveWorked remaining failures limit p station seats ended × WantedMemory ended)) → BegunAt station.history.events run_faults.Memory
  begun_memory stopped (inl unfailed) = begun_unfailed unfailed stopped
  begun_memory stopped (inr have) = begun_worked run_faults.Memory have.0 have.1 (inr refl) (λ is. inr have.2)

  begun_stopped : (fault : RunFault) → ((ended : List (Ended (R × G))) × HaveWorked remaining failures limit p station seats ended) ⊎ (station ≡ opened)
      → (fault ≡ run_faults.Write → (ended : List (Ended (R × G))) × HaveWorked remaining failures limit p station seats ended × HadMemory ended)
      → (fault ≡ run_faults.Memory → (failed_after ≡ failed_before) ⊎ ((ended : List (Ended (R × G))) × HaveWorked remaining failures limit p station seats ended × WantedMemory ended)) → BegunAt station.history.events fault
  begun_stopped run_faults.Write stopped unwanted wanted = (let have = unwanted refl in begun_worked run_faults.Write have.0 have.1 (inl have.2) (λ is. absurd (not_write (sym is))))
  begun_stopped run_faults.Memory stopped unwanted wanted = begun_memory stopped (wanted refl)

-- What a run makes that was ready to be started, as it ends.

pub run_failed : {R G : Type 0} (remaining : R → Option (List ℕ)) (failures : R → ℕ) (p : ScheduleValue) (slots : ℕ) (limit : InputLimit) (opened : StationValue) (readers : List R) (gates : List G) (seats : List ((R × G) × PortValue)) (output : SlotWriter) (before after : Option (List ℕ)) (failed_before failed_after : ℕ) (fault : RunFault)
    → IsReady p slots readers gates opened seats → length readers ≡ length p.first.request.inputs → length gates ≡ length p.first.request.inputs → output.writer ≡ []
    → IsCutShort remaining failures limit p opened seats output before after failed_before failed_after fault
    → (h : List Event) × HasBegun remaining failures (record { run = record { schedule = p; limit = slots }; events = h }) limit readers before after failed_before failed_after fault
run_failed remaining failures p slots limit opened readers gates seats output before after failed_before failed_after fault ready of_readers of_gates waiting f =
    let h = f.station.history.events in
    let same = run_is p slots opened f.station ready.ports ready.opened f.broken.same in
    let S : Run → Type 0 = λ r. IsSound (record { run = r; events = h }) in
    let W : Run → Type 0 = λ r. SendsBeginning before after (bytes_of (emitted r.schedule h)) in
    let broken : IsBroken (record { schedule = p; limit = slots }) h before after = record {
      sound = subst S same f.sound;
      needed = needed_run p slots opened f.station ready.ports ready.opened f.broken.same;
      written = subst W same (f.broken.begun before (nothing_yet p slots opened ready.ports output before ready.opened waiting));
    } in
    (h, begun_stopped remaining failures p slots limit opened f.station readers gates seats before after failed_before failed_after ready of_readers of_gates f.broken.same f.sound f.lawful broken fault f.stopped f.unwanted f.wanted)

module _ {R G : Type 0} (remaining : R → Option (List ℕ)) (failures : R → ℕ) (p : ScheduleValue) (slots : ℕ) (limit : InputLimit) (opened : StationValue) (readers : List R) (gates : List G) (seats : List ((R × G) × PortValue)) (output : SlotWriter) (before after : Option (List ℕ)) (s : Summary) (lent : List (R × G))
    (ready : IsReady p slots readers gates opened seats) (of_readers : length readers ≡ length p.first.request.inputs) (of_gates : length gates ≡ length p.first.request.inputs) (e : RunsThrough remaining failures limit p opened seats output before after s lent) where
  abbrev events : List Event
  events = e.station.history.events

  read_all : AreRead remaining failures (λ (l : R × G). l.0) limit p events readers e.ended
  read_all = all_read remaining failures p slots limit opened e.station readers gates seats e.ended ready of_readers of_gates e.driven.same e.sound e.lawful e.worked

  count_all : length e.ended ≡ length p.first.request.inputs
  count_all = ended_count remaining failures p slots limit opened e.station readers gates seats e.ended ready of_readers of_gates e.driven.same e.sound e.lawful e.worked

  told_all : IsTold p events e.ended e.left s lent
  told_all = (let T : ScheduleValue → Type 0 = λ v. IsTold v events e.ended e.left s lent in subst T (plan_is remaining failures p slots limit opened e.station readers gates seats e.ended ready of_readers of_gates e.driven.same e.sound e.lawful e.worked) e.told)

  pub run_ended : slots ≤ 1099511627776 → output.writer ≡ [] → HasAnalysed output p.first.request.rate p.first.request.watch []
      → (h : List Event) × HasRun (record { run = record { schedule = p; limit = slots }; events = h }) limit (map remaining readers) (map (λ l. remaining l.0) lent) before after s
  run_ended few waiting analysed =
      let run : Run = record { schedule = p; limit = slots } in
      let same = run_is p slots opened e.station ready.ports ready.opened e.driven.same in
      let S : Run → Type 0 = λ r. IsSound (record { run = r; events = events }) in
      let O : Run → Type 0 = λ r. IsOver r events in
      let W : Run → Type 0 = λ r. Appends before after (bytes_of (emitted r.schedule events)) in
      let A : Run → Type 0 = λ r. HasAnalysed e.left r.schedule.first.request.rate r.schedule.first.request.watch (emitted r.schedule events) in
      let done : IsDone run events e.left before after = record {
        few = few;
        sound = subst S same e.sound;
        over = subst O same e.driven.over;
        needed = needed_run p slots opened e.station ready.ports ready.opened e.driven.same;
        analysed = subst A same (e.driven.analysed (analysed_yet p slots opened ready.ports output ready.opened analysed));
        written = subst W same (e.driven.written before (nothing_yet p slots opened ready.ports output before ready.opened waiting));
      } in
      (events, outcome.has_run remaining failures (λ (l : R × G). l.0) limit run events readers e.ended e.left before after s lent read_all count_all e.had_memory done told_all)

  -- a failed read is told of an input exactly where its reader failed
  pub failures_told : FailuresAreTold failures readers (map (λ l. l.0) lent) s.inputs.items
  failures_told = outcome.failures_told remaining failures (λ (l : R × G). l.0) limit p events readers e.ended read_all s.inputs.items lent told_all.inputs count_all

  -- as many readers and gates come back as there were
  pub lent_count : length lent ≡ length readers
  lent_count = (let back : Ended (R × G) → R × G = λ x. x.lent in ap length told_all.inputs.lent_is ∙ (length-map e.ended back ∙ (count_all ∙ sym of_readers)))

-- What a run did that was driven so, whose workers were joined behind it.
module _ {R G W : Type 0} (remaining : R → Option (List ℕ)) (failures : R → ℕ) (contents : W → Option (List ℕ)) (failed : W → ℕ) (limit : InputLimit) (p : ScheduleValue) (opened driven joined : StationValue) (seats : List ((R × G) × PortValue)) (workers : List (Worker R (RunGate G))) (ended : List (Ended (R × G))) (count : ℕ) (a b : Outlet W) (result : Result (Unit {0}) RunFault)
    (started : AreStarted limit p seats workers) (size : length workers ≡ count) (all : OnOk result (count ≡ length seats)) (some : OnErr result ((count ≡ length seats) ⊎ (driven ≡ opened))) (crewed : result ≡ Err run_faults.Write → count ≡ length seats)
    (drives : Drives contents failed opened driven a b result)
    (same : joined ≡ driven) (became : AreEnded remaining failures driven workers ended) (counted : length ended ≡ count) (sound : IsSound joined.history) (lawful : IsLawfulStation joined.history joined.inputs) where
  worked : count ≡ length seats → HaveWorked remaining failures limit p joined seats ended
  worked seated = have_worked remaining failures limit p driven joined seats workers ended started (size ∙ seated) (counted ∙ sym size) became same

  -- it went on to its end, and this was told of it
  pub runs_through : (s : Summary) (lent : List (R × G)) → OnErr result ⊥ → HadMemory ended → IsTold joined.history.run.schedule joined.history.events ended b.output s lent
      → RunsThrough remaining failures limit p opened seats a.output (contents a.sink) (contents b.sink) s lent
  runs_through s lent fine had told =
      let D : StationValue → Type 0 = λ v. IsDriven opened v a.output b.output (contents a.sink) (contents b.sink) in
      record { station = joined; left = b.output; ended = ended; worked = worked (fine_part result fine all); had_memory = had; driven = subst D (sym same) (fine_part result fine drives.driven); sound = sound; lawful = lawful; told = told }

  -- it failed, and this fault was told
  pub is_cut_short : (fault : RunFault) → (fault ≡ run_faults.Write → (result ≡ Err run_faults.Write) × HadMemory ended) → (fault ≡ run_faults.Memory → (result ≡ Err run_faults.Write → ⊥) ⊎ WantedMemory ended)
      → IsCutShort remaining failures limit p opened seats a.output (contents a.sink) (contents b.sink) (failed a.sink) (failed b.sink) fault
  is_cut_short fault write wanted =
      let B : StationValue → Type 0 = λ v. BreaksOff opened v a.output (contents a.sink) (contents b.sink) in
      record {
        station = joined;
        stopped = elim (either_part result all some) [
          | inl seated ↦ inl (ended, worked seated)
          | inr still ↦ inr (same ∙ still)
        ];
        unwanted = λ e. (let t = write e in (ended, worked (crewed t.0), t.1));
        wanted = λ e.
            elim (unless_write result drives.unfailed drives.memory (λ is. is)) [
              | inl well ↦ inl well
              | inr is ↦ elim (wanted e) [
                | inl unwritten ↦ absurd (unwritten is)
                | inr one ↦ inr (ended, worked (crewed is), one)
              ]
            ];
        broken = subst B (sym same) (breaks_either result opened driven a.output b.output (contents a.sink) (contents b.sink) drives.driven drives.broken);
        sound = sound;
        lawful = lawful;
      }
