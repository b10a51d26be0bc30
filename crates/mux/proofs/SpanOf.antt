-- What is kept of the span of the plan in force, and what it says of slots and packets.
use Rattle.std.proofs.Common.{ℕ, zero, suc, ◌+◌, ◌<◌, ◌≤◌, ◌≡◌, true, false, nat_eq, length, get_or, Option, Some, None, ap, ◌∙◌, sym, arith, inl, inr}
use Rattle.std.specs.List.{slice_get}
use Rattle.std.proofs.lemmas.Bool.{cases_Bool, cases_order, eqb-true, eq-eqb, ne_eqb, false≢true}
use Rattle.std.proofs.lemmas.Option.{slice_get-get_or}
use Rattle.schedule.specs.Schedule.{SpanValue, ScheduleValue, span_at, number_for, slot_time}
use Rattle.schedule.proofs.ForceLaws.{belongs, later_at, slots_ascend}
use Rattle.mux.specs.declared.span.Span.{Span}
use Rattle.schedule.specs.Laws.{IsMultiplexSchedule}
use Rattle.mux.specs.Lawful.{begins_at}
use Rattle.mux.specs.Keeping.{IsSpanOf, slot_or_last, time_or_last, begin_of}
use Rattle.mux.proofs.Force.{later_slot, rate_above_0}

-- the next slot is that of a switch where it is the one that is kept
pub due_by : (o : Option SpanValue) (m next : ℕ) → next ≡ slot_or_last o → m < 18446744073709551615 → nat_eq m next ≡ begins_at o m
due_by None m next e l = ne_eqb m next (λ same. omega (arith, e, l, same))
due_by (Some w) m next e l =
    elim (cases_Bool (nat_eq w.slot m)) [
      | inl y ↦ eq-eqb m next (sym (eqb-true w.slot m y) ∙ sym e) ∙ sym y
      | inr n ↦ ne_eqb m next (λ same. false≢true (sym n ∙ eq-eqb w.slot m (sym e ∙ sym same))) ∙ sym n
    ]

gap : (i j : ℕ) → i < j → (n : ℕ) × (j ≡ i + suc n)
gap zero zero l = absurd (omega (arith, l))
gap zero (suc j) l = (j, omega arith)
gap (suc i) zero l = absurd (omega (arith, l))
gap (suc i) (suc j) l = let g = gap i j (omega (arith, l)) in (g.0, omega (arith, g.1))

up_by : (s : ScheduleValue) → IsMultiplexSchedule s → (i j : ℕ) → (n : ℕ) × (j ≡ i + suc n) → j ≤ length s.later → (span_at s i).slot ≤ (span_at s j).slot
up_by s ok i j g within =
    let up = slots_ascend s ok.schedule.slots i g.0 (omega (arith, g.1, within)) in
    let same : (span_at s j).slot ≡ (span_at s (i + suc g.0)).slot = ap (λ n. (span_at s n).slot) g.1 in
    omega (arith, up, same)

-- the slots of spans ascend
spans_up : (s : ScheduleValue) → IsMultiplexSchedule s → (i j : ℕ) → i ≤ j → j ≤ length s.later → (span_at s i).slot ≤ (span_at s j).slot
spans_up s ok i j l within =
    elim (cases_order i j) [
      | inl e ↦ omega (arith, ap (λ n. (span_at s n).slot) e)
      | inr (inl below) ↦ up_by s ok i j (gap i j below) within
      | inr (inr above) ↦ absurd (omega (arith, l, above))
    ]

begun_by : (s : ScheduleValue) (number stamp : ℕ) → begin_of s number ≤ stamp → 0 < number → slot_time s.first (span_at s number).slot ≤ stamp
begun_by s zero stamp b some = absurd (omega (arith, some))
begun_by s (suc n) stamp b some = b

-- a packet of a time in the span belongs to its plan
pub in_span_is : (s : ScheduleValue) (number : ℕ) (span : Span) (stamp : ℕ) → IsMultiplexSchedule s → number ≤ length s.later → IsSpanOf s number span
    → span.begins ≤ stamp → stamp < span.ends → number_for s stamp ≡ number
in_span_is s number span stamp ok within is from to =
    let rate = rate_above_0 s ok in
    let m = number_for s stamp in
    let its = belongs s rate ok.schedule.slots stamp in
    let begins = is.begins in
    let ends = is.ends in
    elim (cases_order (number_for s stamp) number) [
      | inl e ↦ e
      | inr (inl below) ↦
          (let last = its.is_last number below within in
          let begun = begun_by s number stamp (omega (arith, begins, from)) (omega (arith, below)) in
          absurd (omega (arith, last, begun)))
      | inr (inr above) ↦
          (let none : SpanValue = record { slot = 0; plan = s.first } in
          let l : number < length s.later = omega (arith, above, its.within) in
          let w = get_or s.later number none in
          let there : slice_get s.later number ≡ Some w = slice_get-get_or s.later number none l in
          let end : span.ends ≡ slot_time s.first w.slot = ends ∙ ap (time_or_last s) there in
          let slot : w.slot ≡ (span_at s (number + 1)).slot = ap (λ (v : SpanValue). v.slot) (later_at s number none l) in
          let up = spans_up s ok (number + 1) (number_for s stamp) (omega (arith, above)) its.within in
          let time = later_slot s w.slot (span_at s (number_for s stamp)).slot rate (omega (arith, slot, up)) in
          let begun = its.has_begun (omega (arith, above)) in
          absurd (omega (arith, to, end, time, begun)))
    ]
