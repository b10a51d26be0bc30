-- Stations that are given the same packets send the same.
use Rattle.std.proofs.Common.{◌≡◌, ℕ, List, [], ◌++◌, length, Option, Some, ap, sym, ◌∙◌, subst, inl, inr, length-append, arith}
use Rattle.std.specs.List.{slice_get}
use Rattle.std.specs.Option.{option_to_list}
use Rattle.std.proofs.lemmas.List.{append-nil, nil_from_length}
use Rattle.std.proofs.lemmas.Option.{slice_get_cases}
use Rattle.tspkt.specs.declared.stamped.Stamped.{Stamped}
use Rattle.schedule.specs.Schedule.{ScheduleValue}
use Rattle.schedule.specs.Laws.{IsMultiplexSchedule}
use Rattle.mux.specs.History.{taken, emitted}
use Rattle.mux.specs.Lawful.{IsLawful, input_count}
use Rattle.mux.specs.Faithful.{PacketLists, IsPrefix, IsRunOf}
use Rattle.mux.proofs.Emitted.{length-emitted}
use Rattle.mux.proofs.Same.{outputs_agree}
use Rattle.station.specs.Stations.{Input, StationValue, IsLawfulInput}
use Rattle.station.specs.Agreement.{IsStation, IsGiven, StationsAgree, SlotsAgree}
use Rattle.inlets.proofs.FaithfulLaws.{IsTakenOf, prefix_on, notes_of_list, faithful_to}

-- the input was taken so that it begins its list
taken_of : (lists : PacketLists) (s : StationValue) (i : ℕ) (x : Input) → IsGiven lists s → slice_get s.inputs i ≡ Some x → IsLawfulInput s.history i x → IsTakenOf s.history.run.schedule s.history.events i (lists i)
taken_of lists s i x given at kept =
    let h = s.history.events in
    record {
      begins = prefix_on (taken i h) x.inlet.received (lists i) (option_to_list x.inlet.head, kept.received) (given.begins i x at);
      notes = notes_of_list s.history.run.schedule i (taken i h ++ option_to_list x.inlet.head) (lists i) h (subst (λ v. IsPrefix v (lists i)) kept.received (given.begins i x at)) kept.notes;
      closed = λ shut. elim (kept.closes (kept.closed ∙ shut)) [
        | inl e ↦
            given.whole i x at e.0
            ∙ (kept.received ∙ (ap (λ (v : Option Stamped). taken i h ++ option_to_list v) e.1 ∙ append-nil (taken i h)))
        | inr r ↦ absurd (given.takeable i x r.0 at r.1 r.2)
      ];
    }

run_of : (schedule : ScheduleValue) (lists : PacketLists) (s : StationValue) → IsStation schedule s → IsGiven lists s → IsMultiplexSchedule schedule × IsRunOf schedule lists s.history.events
run_of schedule lists s is given =
    let ok : IsMultiplexSchedule schedule = subst IsMultiplexSchedule is.schedule_is is.sound.schedule in
    let lawful : IsLawful schedule s.history.events = subst (λ v. IsLawful v s.history.events) is.schedule_is is.sound.run.lawful in
    let count : length s.inputs ≡ input_count schedule = is.lawful.count ∙ ap input_count is.schedule_is in (
      ok,
      record {
        lawful = lawful;
        faithful = faithful_to schedule lists s.history.events ok lawful
            (λ i inside.
            elim (slice_get_cases s.inputs i).1 [
              | inl at ↦
                  let P : ScheduleValue → Type 0 = λ v. IsTakenOf v s.history.events i (lists i) in
                  subst P is.schedule_is (taken_of lists s i at.0 given at.2 (is.lawful.each i at.0 at.2))
              | inr past ↦ (let behind = past.0 in absurd (omega (arith, behind, inside, count)))
            ]);
      },
    )

pub stations_agree : StationsAgree
stations_agree schedule lists a b isa givena isb givenb =
    let ra = run_of schedule lists a isa givena in
    let rb = run_of schedule lists b isb givenb in
    outputs_agree schedule lists a.history.events b.history.events ra.0 ra.1 rb.1

-- a beginning that is as long is the whole
whole_prefix : {X : Type 0} (xs ys : List X) → IsPrefix xs ys → length xs ≡ length ys → xs ≡ ys
whole_prefix xs ys is same =
    let sizes = ap length is.1 ∙ length-append xs is.0 in
    let none : is.0 ≡ [] = nil_from_length is.0 (omega (arith, sizes, same)) in
    sym (is.1 ∙ (ap (λ v. xs ++ v) none ∙ append-nil xs))

pub slots_agree : SlotsAgree
slots_agree schedule lists a b isa givena isb givenb same =
    let xs = emitted schedule a.history.events in
    let ys = emitted schedule b.history.events in
    let sizes : length xs ≡ length ys = length-emitted schedule a.history.events ∙ (same ∙ sym (length-emitted schedule b.history.events)) in
    elim (stations_agree schedule lists a b isa givena isb givenb) [
      | inl p ↦ whole_prefix xs ys p sizes
      | inr p ↦ sym (whole_prefix ys xs p (sym sizes))
    ]
