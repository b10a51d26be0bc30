-- What a worker sent, and what became of it.
use Rattle.std.proofs.Common.{◌≡◌, ℕ, Bool, true, false, List, [], ◌∷◌, ◌++◌, Option, Some, None, refl, ap, ◌∙◌, sym, subst, inl, inr, append_assoc, arith}
use Rattle.std.specs.List.{slice_get}
use Rattle.std.specs.Option.{option_to_list}
use Rattle.std.proofs.lemmas.Bool.{cases_Bool, false≢true}
use Rattle.tspkt.specs.declared.stamped.Stamped.{Stamped}
use Rattle.request.specs.Request.{InputValue, IsInput}
use Rattle.schedule.specs.Schedule.{ScheduleValue}
use Rattle.mux.specs.History.{taken, is_closed}
use Rattle.mux.specs.Lawful.{is_mapped}
use Rattle.schedule.specs.Laws.{IsMultiplexSchedule}
use Rattle.reading.specs.InputLimit.{limit_of_input}
use Rattle.reading.specs.Takeable.{origin_of, framed_at, takeable}
use Rattle.reading.specs.declared.input_limit.InputLimit.{InputLimit}
use Rattle.reading.specs.declared.report.Report.{Report}
use Rattle.reading.specs.declared.stop.Stop.TheVariants.{Gate}
use Rattle.port.specs.Rings.{PortValue}
use Rattle.worker.specs.Working.{HasSentOf}
use Rattle.worker.specs.declared.worker.Worker.{Worker}
use Rattle.inlets.specs.Turns.{IsRefusedForGood}
use Rattle.inlets.specs.Notes.{NotesAreOfShown}
use Rattle.station.specs.Stations.{Input, StationValue, IsLawfulInput}
use Rattle.outcome.specs.declared.ended.Ended.{Ended}
use Rattle.outcome.proofs.NextLaws.{next_in_order}
use Rattle.outcome.proofs.ServedLaws.{IsServed}
use Rattle.workers.specs.Crews.{IsStarted, IsEnded}
use Rattle.workers.specs.declared.run_gate.RunGate.{RunGate}

-- What the worker of an input sent, and what became of that: it was taken, or is held, or is left in the ring. Nothing is left where
-- the end mark came, and there is none where a gate stopped the worker.
pub record IsSettledInput {R : Type 0} (remaining : R → Option (List ℕ)) (limit : ℕ) (p : ScheduleValue) (station : StationValue) (i : ℕ) (input : InputValue) (reader left : R) (report : Report) : Type 0 where
  pub sent : List Stamped
  pub is_ended : Bool
  pub has : HasSentOf limit p (origin_of i input) (remaining reader) (remaining left) report is_ended sent
  pub unmarked : report.stopped ≡ Some Gate → is_ended ≡ false
  pub entry : Input
  pub entry_is : slice_get station.inputs i ≡ Some entry
  pub rest : List Stamped
  pub sent_is : sent ≡ (taken i station.history.events ++ option_to_list entry.inlet.head) ++ rest
  pub marked : entry.inlet.is_ended ≡ true → (is_ended ≡ true) × (rest ≡ [])

pub settled_input : {R G : Type 0} (remaining : R → Option (List ℕ)) (failures : R → ℕ) (limit : InputLimit) (p : ScheduleValue) (station : StationValue) (i : ℕ) (input : InputValue) (reader : R) (port : PortValue) (w : Worker R (RunGate G)) (e : Ended (R × G))
    → IsStarted limit p i reader port w → port.ring.input ≡ i → slice_get p.first.request.inputs i ≡ Some input → IsEnded remaining failures station w e
    → IsSettledInput remaining (limit_of_input limit input.size) p station i input reader e.lent.0 e.report × (e.is_closed ≡ is_closed i station.history.events)
settled_input {R} {G} remaining failures limit p station i input reader port w e started own at ended =
    let worked = ended.work.sent input ((λ k. slice_get (started.plan_is k).first.request.inputs (started.number_is k)) ∙ at) in
    let T : (InputLimit × ScheduleValue × ℕ × R) → Type 0 = λ v. HasSentOf (limit_of_input v.0 input.size) v.1 (origin_of v.2 input) (remaining v.3) (remaining e.lent.0) e.report ended.finished.is_ended worked.0 in
    let number : ended.finished.port.ring.input ≡ i = ap (λ (v : PortValue). v.ring.input) worked.2 ∙ (ap (λ (v : PortValue). v.ring.input) started.port_is ∙ own) in
    let events = station.history.events in (
      record {
        sent = worked.0;
        is_ended = ended.finished.is_ended;
        unmarked = ended.work.unmarked;
        has = subst T (λ k. (started.limit_is k, started.plan_is k, started.number_is k, started.source_is k)) worked.1;
        entry = ended.settles.input;
        entry_is = ap (λ n. slice_get station.inputs n) (sym number) ∙ ended.settles.input_is;
        rest = ended.settles.left;
        marked = ended.settles.marked;
        sent_is = sym (ap (λ (v : PortValue). v.sent) worked.2) ∙ (ended.settles.sent ∙ ap (λ n. (taken n events ++ option_to_list ended.settles.input.inlet.head) ++ ended.settles.left) number);
      },
      ended.closed_is ∙ ap (λ n. is_closed n events) number,
    )

-- The station kept the input that the worker served, of a schedule's input.
module _ {R : Type 0} (remaining : R → Option (List ℕ)) (limit : ℕ) (p : ScheduleValue) (station : StationValue) (i : ℕ) (input : InputValue) (reader left : R) (report : Report) (x : IsSettledInput remaining limit p station i input reader left report)
    (kept : IsLawfulInput station.history i x.entry) (plan_is : station.history.run.schedule ≡ p) (schedule : IsMultiplexSchedule p) (ranges : IsInput input) where
  -- no packet that a worker sent is refused for good
  unrefused : (item : Stamped) → x.entry.inlet.head ≡ Some item → IsRefusedForGood station.history i item → ⊥
  unrefused item held refused =
      let h = station.history.events in
      let took = taken i h in
      let later = x.has.begins [] in
      let bytes = x.has.bytes ++ [] in
      let parts : x.sent ≡ (took ++ item ∷ []) ++ x.rest = x.sent_is ∙ ap (λ (v : Option Stamped). (took ++ option_to_list v) ++ x.rest) held in
      let all : (took ++ item ∷ []) ++ (x.rest ++ later.0) ≡ takeable p (origin_of i input) (framed_at (origin_of i input) bytes) =
      sym (append_assoc (took ++ item ∷ []) x.rest later.0) ∙ (ap (λ v. v ++ later.0) (sym parts) ∙ later.1) in
      let least = ranges.rate.0 in
      let next = next_in_order p h i (origin_of i input) item bytes (x.rest ++ later.0) schedule refl (omega (arith, least)) all in
      let mapped : is_mapped station.history.run.schedule i item ≡ true = ap (λ (v : ScheduleValue). is_mapped v i item) plan_is ∙ next.mapped in
      elim refused [
        | inl e ↦ false≢true (sym e ∙ mapped)
        | inr l ↦ (let order = next.later in omega (arith, l, order))
      ]

  -- of a closed input the end mark came, and nothing is held or left
  behind_mark : is_closed i station.history.events ≡ true → (x.is_ended ≡ true) × (x.entry.inlet.head ≡ None) × (x.rest ≡ [])
  behind_mark shut =
      elim (kept.closes (kept.closed ∙ shut)) [
        | inl e ↦ (let m = x.marked e.0 in (m.0, e.1, m.1))
        | inr r ↦ absurd (unrefused r.0 r.1 r.2)
      ]

  pub served : IsServed limit p station.history.events i (origin_of i input) (remaining reader) (remaining left) report
  served =
      let has = x.has in
      let N : ScheduleValue → Type 0 = λ v. NotesAreOfShown v i x.entry.inlet.head station.history.events in
      record {
        bytes = has.bytes;
        read = has.read;
        came = x.sent;
        begins = has.begins;
        looked = has.counted.looked;
        framing = has.counted.framing;
        counts = has.counted.counts;
        behind = option_to_list has.counted.held;
        looked_is = has.counted.sent_is;
        shown = x.entry.inlet.head;
        rest = x.rest;
        came_is = x.sent_is;
        notes = subst N plan_is kept.notes;
        shut = λ shut. (let b = behind_mark shut in record { unshown = b.1; none_left = b.2; none_behind = λ had. ap option_to_list (has.counted.over b.0 had) });
        unclosed = λ e.
            elim (cases_Bool (is_closed i station.history.events)) [
              | inl shut ↦ absurd (false≢true (sym (x.unmarked e) ∙ (behind_mark shut).0))
              | inr opened ↦ opened
            ];
        whole = λ shut e. (let w = has.whole e in record { came_is = w.sent_is; counts = w.counts; at_end = w.at_end });
        failed = has.failed;
        told = has.told;
        too_much = has.too_much;
        within = has.within;
      }
