-- Which plan is in force, by the events: the plans come one after another, each in its slot.
use Rattle.std.proofs.Common.{ℕ, ◌+◌, ◌-◌, ◌*◌, ◌/◌, ◌<◌, ◌≤◌, ◌≡◌, ◌∙◌, inl, inr, true, false, List, [], ◌∷◌, Option, Some, None, length, get_or, ap, refl, sym, arith}
use Rattle.std.specs.Prelude.{IsTrue}
use Rattle.std.proofs.Math.Nat.{div-mul-le_self, lt-div-mul-add, mul-le-mul_right}
use Rattle.std.proofs.lemmas.Bool.{cases_lt}
use Rattle.std.specs.List.{slice_get, Contains}
use Rattle.std.proofs.lemmas.Bool.{eqb-true, false≢true, eq-eqb}
use Rattle.std.proofs.lemmas.Option.{slice_get_within, slice_get-get_or, get_or_from_slice_get}
use Rattle.request.specs.declared.stream.Stream.{Stream}
use Rattle.mux.specs.declared.event.Event.{Event}
use Rattle.mux.specs.declared.event.Event.TheVariants.{Took, Full, Early, Close, Slot, Switch}
use Rattle.schedule.specs.Schedule.{SpanValue, ScheduleValue, span_at, number_in_slot, slot_time}
use Rattle.schedule.specs.Switches.{SlotsFollow}
use Rattle.schedule.proofs.ForceLaws.{in_span, later_at}
use Rattle.schedule.specs.Laws.{IsMultiplexSchedule}
use Rattle.mux.specs.History.{in_force, plan_in_force, slots}
use Rattle.mux.specs.Lawful.{begins_at, is_switch_due, IsLawful}
use Rattle.mux.proofs.Plans.{Has, has_in_plan, first_request}

-- a switch that is due is one to a later plan, in its slot
due_some : (o : Option SpanValue) (m : ℕ) → IsTrue (begins_at o m) → (w : SpanValue) × (o ≡ Some w) × (w.slot ≡ m)
due_some None m e = absurd (false≢true e)
due_some (Some w) m e = (w, refl, eqb-true w.slot m e)

pub due_is : (s : ScheduleValue) (h : List Event) → IsTrue (is_switch_due s h) → (in_force h < length s.later) × ((span_at s (in_force h + 1)).slot ≡ slots h)
due_is s h e =
    let d = due_some (slice_get s.later (in_force h)) (slots h) e in
    let within = slice_get_within s.later (in_force h) d.0 d.1 in
    let at : get_or s.later (in_force h) d.0 ≡ d.0 = get_or_from_slice_get s.later (in_force h) d.0 d.0 d.1 in
    (within, ap (λ (w : SpanValue). w.slot) (sym (later_at s (in_force h) d.0 within) ∙ at) ∙ d.2)

-- and where none is due, the next plan's slot isn't this one
pub undue_is : (s : ScheduleValue) (h : List Event) → is_switch_due s h ≡ false → in_force h < length s.later → (span_at s (in_force h + 1)).slot ≡ slots h → ⊥
undue_is s h e within same =
    let none : SpanValue = record { slot = 0; plan = s.first } in
    let w = get_or s.later (in_force h) none in
    let here : slice_get s.later (in_force h) ≡ Some w = slice_get-get_or s.later (in_force h) none within in
    let slot : w.slot ≡ slots h = ap (λ (v : SpanValue). v.slot) (later_at s (in_force h) none within) ∙ same in
    false≢true (sym e ∙ ap (λ o. begins_at o (slots h)) here ∙ eq-eqb w.slot (slots h) slot)

-- the span in force has begun, and the next one hasn't
pub record IsInSpan (s : ScheduleValue) (h : List Event) : Type 0 where
  pub within : in_force h ≤ length s.later
  pub has_begun : (span_at s (in_force h)).slot ≤ slots h
  pub before_next : in_force h < length s.later → slots h ≤ (span_at s (in_force h + 1)).slot

pub in_its_span : (s : ScheduleValue) (h : List Event) → SlotsFollow s → IsLawful s h → IsInSpan s h
in_its_span s [] follow law = record { within = omega arith; has_begun = omega arith; before_next = λ l. omega arith }
in_its_span s (Took i item ∷ h) follow law = let ih = in_its_span s h follow law.0 in record { within = ih.within; has_begun = ih.has_begun; before_next = ih.before_next }
in_its_span s (Full i st ∷ h) follow law = let ih = in_its_span s h follow law.0 in record { within = ih.within; has_begun = ih.has_begun; before_next = ih.before_next }
in_its_span s (Early i ∷ h) follow law = let ih = in_its_span s h follow law.0 in record { within = ih.within; has_begun = ih.has_begun; before_next = ih.before_next }
in_its_span s (Close i ∷ h) follow law = let ih = in_its_span s h follow law.0 in record { within = ih.within; has_begun = ih.has_begun; before_next = ih.before_next }
in_its_span s (Slot c ∷ h) follow law =
    let ih = in_its_span s h follow law.0 in
    record {
      within = ih.within;
      has_begun = omega (arith, ih.has_begun);
      before_next = λ l.
          let ne = undue_is s h law.1.switched l in
          let below = ih.before_next l in
          omega (arith, below, ne);
    }
in_its_span s (Switch number ∷ h) follow law =
    let ih = in_its_span s h follow law.0 in
    let due = due_is s h law.1.due in
    let next : number ≡ in_force h + 1 = law.1.next in
    let from : (span_at s number).slot ≡ slots h = ap (λ n. (span_at s n).slot) next ∙ due.1 in
    record {
      within = omega (arith, due.0, next);
      has_begun = omega (arith, from);
      before_next = λ l. let up = (follow.each number l).after in omega (arith, up, from);
    }

-- where no switch is due, the plan in force is that of the slot
pub in_force_is : (s : ScheduleValue) (h : List Event) → SlotsFollow s → IsLawful s h → is_switch_due s h ≡ false → number_in_slot s (slots h) ≡ in_force h
in_force_is s h follow law none =
    let is = in_its_span s h follow law in
    in_span s follow (in_force h) (slots h) is.within is.has_begun
    (λ l. let below = is.before_next l in let ne = undue_is s h none l in omega (arith, below, ne))

pub force_within : (s : ScheduleValue) (h : List Event) → IsMultiplexSchedule s → IsLawful s h → in_force h ≤ length s.later
force_within s h ok law = (in_its_span s h ok.schedule.slots law).within

-- a stream of the plan in force is one of the schedule
pub has_in_force : (s : ScheduleValue) (h : List Event) (st : Stream) → IsMultiplexSchedule s → IsLawful s h → Contains (plan_in_force s h).request.streams st → Has s st
has_in_force s h st ok law c = has_in_plan s (in_force h) st ok (force_within s h ok law) c

-- slots go out in order
pub rate_above_0 : (s : ScheduleValue) → IsMultiplexSchedule s → 0 < s.first.request.rate
rate_above_0 s plan = let low = (first_request s plan).rate.0 in omega arith

pub quotients : (a b c : ℕ) → 0 < c → a ≤ b → a / c ≤ b / c
quotients a b c pos le =
    elim (cases_lt (b / c) (a / c)) [
      | inl l ↦
          (let up : (b / c + 1) * c ≤ a / c * c = mul-le-mul_right c (omega arith) in
          let low = div-mul-le_self a c in
          let high = lt-div-mul-add {a = b} pos in
          absurd (omega arith))
      | inr l ↦ l
    ]

-- of two slots the later one goes out no earlier
pub later_slot : (s : ScheduleValue) (m n : ℕ) → 0 < s.first.request.rate → m ≤ n → slot_time s.first m ≤ slot_time s.first n
later_slot s m n pos l = quotients ((188 * m + 10) * 216000000) ((188 * n + 10) * 216000000) s.first.request.rate pos (omega (arith, l))
