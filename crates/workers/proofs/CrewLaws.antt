-- Lists of workers, one more at a time, and what they served.
use Rattle.std.proofs.Common.{◌≡◌, ℕ, ◌<◌, List, [], ◌∷◌, ◌++◌, length, drop, map, Option, Some, option_map, ap, sym, subst, ◌∙◌, arith, inl, inr, length-append}
use Rattle.std.specs.List.{slice_get}
use Rattle.std.proofs.lemmas.Option.{slice_get_within, same_Some, slice_get-map}
use Rattle.std.proofs.lemmas.List.{length-map}
use Rattle.schedule.specs.Schedule.{ScheduleValue}
use Rattle.reading.specs.declared.input_limit.InputLimit.{InputLimit}
use Rattle.reading.specs.declared.report.Report.{Report}
use Rattle.port.specs.Rings.{RingId, PortValue, FinishedValue}
use Rattle.worker.specs.declared.worker.Worker.{Worker}
use Rattle.station.specs.Stations.{Input, StationValue, IsLawfulStation, rings_of}
use Rattle.mux.specs.Lawful.{input_count}
use Rattle.outcome.proofs.ListLaws.{push_cases, map_push, get_within}
use Rattle.workers.specs.Working.{IsWorkOf}
use Rattle.workers.proofs.ListLaws.{drop_next, drop_more}
use Rattle.workers.specs.Crews.{IsStarted, AreStarted, AreOfStation, AreSeated, IsEnded, AreEnded, HaveWorked}
use Rattle.outcome.specs.declared.ended.Ended.{Ended}
use Rattle.workers.specs.declared.run_gate.RunGate.{RunGate}

pub started_push : {R G : Type 0} (limit : InputLimit) (schedule : ScheduleValue) (seats : List ((R × G) × PortValue)) (workers : List (Worker R (RunGate G))) (seat : (R × G) × PortValue) (w : Worker R (RunGate G))
    → AreStarted limit schedule seats workers → slice_get seats (length workers) ≡ Some seat → IsStarted limit schedule (length workers) seat.0.0 seat.1 w → AreStarted limit schedule seats (workers ++ w ∷ [])
started_push {R} {G} limit schedule seats workers seat w are at is = record {
  within = (let inside = slice_get_within seats (length workers) seat at in omega (arith, inside, length-append workers (w ∷ [])));
  each = λ i s x ats atx.
      elim (push_cases workers w i x atx) [
        | inl there ↦ are.each i s x ats there
        | inr last ↦
            (let P : ℕ → Type 0 = λ n. slice_get seats n ≡ Some s in
            let same : seat ≡ s = same_Some seat s (sym at ∙ subst P last.0 ats) in
            let N : ℕ → Type 0 = λ n. IsStarted limit schedule n s.0.0 s.1 x in
            let S : (R × G) × PortValue → Type 0 = λ v. IsStarted limit schedule (length workers) v.0.0 v.1 x in
            let W : Worker R (RunGate G) → Type 0 = λ v. IsStarted limit schedule (length workers) seat.0.0 seat.1 v in
            subst N (sym last.0) (subst S same (subst W (sym last.1) is)))
      ];
}

pub none_started : {R G : Type 0} (limit : InputLimit) (schedule : ScheduleValue) (seats : List ((R × G) × PortValue)) → AreStarted limit schedule seats []
none_started limit schedule seats = record { within = omega arith; each = λ i s x ats atx. absurd (cc) }

pub ended_push : {R G : Type 0} (remaining : R → Option (List ℕ)) (failures : R → ℕ) (station : StationValue) (workers : List (Worker R (RunGate G))) (ended : List (Ended (R × G))) (w : Worker R (RunGate G)) (e : Ended (R × G))
    → AreEnded remaining failures station workers ended → slice_get workers (length ended) ≡ Some w → IsEnded remaining failures station w e → AreEnded remaining failures station workers (ended ++ e ∷ [])
ended_push {R} {G} remaining failures station workers ended w e are at is i v d atv atd =
    elim (push_cases ended e i d atd) [
      | inl here ↦ are i v d atv here
      | inr end ↦
          (let P : ℕ → Type 0 = λ n. slice_get workers n ≡ Some v in
          let same : w ≡ v = same_Some w v (sym at ∙ subst P end.0 atv) in
          let W : Worker R (RunGate G) → Type 0 = λ x. IsEnded remaining failures station x d in
          let E : Ended (R × G) → Type 0 = λ x. IsEnded remaining failures station w x in
          subst W same (subst E (sym end.1) is))
    ]

pub none_ended : {R G : Type 0} (remaining : R → Option (List ℕ)) (failures : R → ℕ) (station : StationValue) (workers : List (Worker R (RunGate G))) → AreEnded remaining failures station workers []
none_ended remaining failures station workers i v d atv atd = absurd (cc)

-- The loops: one worker more of a list of handles.

pub started_of : {R G : Type 0} (limit : InputLimit) (schedule : ScheduleValue) (i : ℕ) (reader : R) (port : PortValue) (own : ScheduleValue) (number : ℕ) (new v : Worker R G)
    → v ≡ new → (new.schedule ≡ own) × (new.number ≡ number) × (new.limit ≡ limit) → new.source ≡ reader → new.port ≡ port → own ≡ schedule → number ≡ i → IsStarted limit schedule i reader port v
started_of {R} {G} limit schedule i reader port own number new v e input source port_is own_is number_is = record {
  plan_is = ap (λ (w : Worker R G). w.schedule) e ∙ (input.0 ∙ own_is);
  number_is = ap (λ (w : Worker R G). w.number) e ∙ (input.1 ∙ number_is);
  limit_is = ap (λ (w : Worker R G). w.limit) e ∙ input.2;
  source_is = ap (λ (w : Worker R G). w.source) e ∙ source;
  port_is = ap (λ (w : Worker R G). w.port) e ∙ port_is;
}

pub started_next : {R G H : Type 0} (f : H → Worker R (RunGate G)) (limit : InputLimit) (schedule : ScheduleValue) (seats : List ((R × G) × PortValue)) (handles new : List H) (h : H) (seat : (R × G) × PortValue)
    → AreStarted limit schedule seats (map f handles) → slice_get seats (length handles) ≡ Some seat → IsStarted limit schedule (length handles) seat.0.0 seat.1 (f h) → new ≡ handles ++ h ∷ []
    → AreStarted limit schedule seats (map f new)
started_next {R} {G} {H} f limit schedule seats handles new h seat are at is e =
    let size : length (map f handles) ≡ length handles = length-map handles f in
    let A : ℕ → Type 0 = λ n. slice_get seats n ≡ Some seat in
    let I : ℕ → Type 0 = λ n. IsStarted limit schedule n seat.0.0 seat.1 (f h) in
    let M : List (Worker R (RunGate G)) → Type 0 = AreStarted limit schedule seats in
    let N : List H → Type 0 = λ v. AreStarted limit schedule seats (map f v) in
    subst N (sym e) (subst M (sym (map_push f handles h)) (started_push limit schedule seats (map f handles) seat (f h) are (subst A (sym size) at) (subst I (sym size) is)))

pub ended_next : {R G H : Type 0} (f : H → Worker R (RunGate G)) (remaining : R → Option (List ℕ)) (failures : R → ℕ) (station : StationValue) (handles : List H) (ended new : List (Ended (R × G))) (h : H) (e : Ended (R × G))
    → AreEnded remaining failures station (map f handles) ended → slice_get handles (length ended) ≡ Some h → IsEnded remaining failures station (f h) e → new ≡ ended ++ e ∷ []
    → AreEnded remaining failures station (map f handles) new
ended_next {R} {G} {H} f remaining failures station handles ended new h e are at is grown =
    let N : List (Ended (R × G)) → Type 0 = AreEnded remaining failures station (map f handles) in
    subst N (sym grown) (ended_push remaining failures station (map f handles) ended (f h) e are (slice_get-map f handles (length ended) ∙ ap (option_map f) at) is)

-- what is left of a list behind one more
pub rest_next : {X H : Type 0} (handles new : List H) (h : H) (all : List X) (x : X) (rest : List X) → new ≡ handles ++ h ∷ [] → drop (length handles) all ≡ x ∷ rest → drop (length new) all ≡ rest
rest_next {X} {H} handles new h all x rest e at =
    let N : List H → Type 0 = λ v. drop (length v) all ≡ rest in
    subst N (sym e) (drop_more handles h all rest (drop_next (length handles) all x rest at).1)

-- the port of a worker is settled with the ring that its input comes through
pub of_work : {R G : Type 0} (remaining : R → Option (List ℕ)) (failures : R → ℕ) (rings : List RingId) (w : Worker R G) (report : Report) (finished : FinishedValue) (left : R)
    → IsWorkOf remaining failures w report finished left → slice_get rings w.port.ring.input ≡ Some w.port.ring → slice_get rings finished.port.ring.input ≡ Some finished.port.ring
of_work remaining failures rings w report finished left work at =
    let input = get_within w.schedule.first.request.inputs w.number w.known in
    let worked = work.sent input.0 input.1 in
    let P : PortValue → Type 0 = λ p. slice_get rings p.ring.input ≡ Some p.ring in
    subst P (sym worked.2) at

-- the station has an input for each of its rings
pub ring_within : (station : StationValue) (i : ℕ) (ring : RingId) → IsLawfulStation station.history station.inputs → slice_get (rings_of station.inputs) i ≡ Some ring → i < input_count station.history.run.schedule
ring_within station i ring lawful at =
    let ring_of : Input → RingId = λ x. x.inlet.ring in
    let inside = slice_get_within (rings_of station.inputs) i ring at in
    omega (arith, inside, length-map station.inputs ring_of, lawful.count)

-- the workers of all seats worked, and the station was as it is
pub have_worked : {R G : Type 0} (remaining : R → Option (List ℕ)) (failures : R → ℕ) (limit : InputLimit) (schedule : ScheduleValue) (driven joined : StationValue) (seats : List ((R × G) × PortValue)) (workers : List (Worker R (RunGate G))) (ended : List (Ended (R × G)))
    → AreStarted limit schedule seats workers → length workers ≡ length seats → length ended ≡ length workers → AreEnded remaining failures driven workers ended → joined ≡ driven
    → HaveWorked remaining failures limit schedule joined seats ended
have_worked {R} {G} remaining failures limit schedule driven joined seats workers ended started all count became same =
    let E : StationValue → Type 0 = λ s. AreEnded remaining failures s workers ended in
    record { workers = workers; started = started; all = all; count = count; became = subst E (sym same) became }

-- the workers of a run send to the rings of its station
pub seated_workers : {R G : Type 0} (limit : InputLimit) (schedule : ScheduleValue) (old new : StationValue) (seats : List ((R × G) × PortValue)) (workers : List (Worker R (RunGate G)))
    → AreSeated old seats → rings_of new.inputs ≡ rings_of old.inputs → AreStarted limit schedule seats workers → AreOfStation new workers
seated_workers limit schedule old new seats workers seated rings started i w at =
    let inside = slice_get_within workers i w at in
    let seat = get_within seats i (omega (arith, inside, started.within)) in
    let s = started.each i seat.0 w seat.1 at in
    let here = ap (λ v. slice_get v seat.0.1.ring.input) rings ∙ seated i seat.0 seat.1 in
    let P : PortValue → Type 0 = λ v. slice_get (rings_of new.inputs) v.ring.input ≡ Some v.ring in
    subst P (sym s.port_is) here
