-- How often a section of a PAT or a PMT ends in an emission of a schedule, across switches too.
use Rattle.std.proofs.Common.{◌≡◌, ℕ, zero, suc, ◌+◌, ◌-◌, ◌*◌, ◌%◌, ◌<◌, ◌≤◌, ◌⊎◌, List, length, sym, ◌∙◌, ap, subst, arith, Some}
use Rattle.std.proofs.Math.Nat.{mul-le-mul_right}
use Rattle.std.proofs.lemmas.Option.{slice_get_within}
use Rattle.rounds.specs.declared.table_place.TablePlace.TheVariants.{Fast}
use Rattle.rounds.specs.Rounds.{table_at, fast_limit_of}
use Rattle.rounds.proofs.RecurringLaws.{fast_in_period}
use Rattle.rounds.proofs.RoundLaws.{positive, due_fast}
use Rattle.output_tables.specs.OnPid.{SectionOnPid}
use Rattle.output_tables.specs.TableSet.{fast_packets}
use Rattle.schedule.specs.Schedule.{ScheduleValue, span_at, plan_at}
use Rattle.emission.specs.Spans.{slot_in_span, IsEmissionOf, packets_of_span}
use Rattle.emission.proofs.SpanLaws.{from_slot}
use Rattle.emission.proofs.SpanFacts.{IsKnown, IsOff, built_at, rounds_rate, rounds_period}
use Rattle.emission.proofs.ApartLaws.{facts}
use Rattle.output_faults.proofs.ReadLaws.{EndsIn}
use Rattle.output_faults.proofs.SpanReadLaws.{Carries, IsQuietOn, IsInSpan, none_over, whole_rounds, last_of, ends_at}

-- a slot from `from` on, and before `to`, in which a section ends
pub record EndsFrom (P : ℕ → List ℕ → Type 0) (pid : ℕ) (slots : List (List ℕ)) (first to : ℕ) : Type 0 where
  pub slot : ℕ
  pub low : first ≤ slot
  pub high : slot < to
  pub ends : EndsIn P pid slots slot

-- a switch is at least a period behind the one before it
pub a_period_on : (s : ScheduleValue) → IsKnown s → (n : ℕ) → n < length s.later → (p : ℕ) → p ≡ s.first.request.period → 0 < p → (span_at s n).slot + p ≤ (span_at s (n + 1)).slot
a_period_on s k n l p same pos =
    let next = k.schedule.slots.each n l in
    let low : (span_at s n).slot % s.first.request.period ≡ 0 = begins n (omega (arith, l)) in
    let rounds = whole_rounds (span_at s n).slot (span_at s (n + 1)).slot s.first.request.period (omega (arith, same, pos)) low next.round (omega (arith, next.after)) in
    let some : 0 < rounds.0 = some_rounds rounds.0 rounds.1 next.after in
    let one : 1 * s.first.request.period ≤ rounds.0 * s.first.request.period = mul-le-mul_right s.first.request.period (omega (arith, some)) in
    omega (arith, one, rounds.1, same)
  where
    begins : (i : ℕ) → i ≤ length s.later → (span_at s i).slot % s.first.request.period ≡ 0
    begins zero within = none_over s.first.request.period (omega (arith, same, pos))
    begins (suc i) within =
        let e : i + 1 ≡ suc i = omega arith in
        subst (λ j. (span_at s j).slot % s.first.request.period ≡ 0) e (k.schedule.slots.each i (omega (arith, within))).round

    some_rounds : (j : ℕ) → (span_at s (n + 1)).slot ≡ (span_at s n).slot + j * s.first.request.period → (span_at s n).slot < (span_at s (n + 1)).slot → 0 < j
    some_rounds zero e up = absurd (omega (arith, e, up))
    some_rounds (suc j) e up = omega arith

module _ (s : ScheduleValue) (k : IsKnown s) (out : List (List ℕ)) (h : IsEmissionOf s out) (pid : ℕ) (off : IsOff s pid) (P : ℕ → List ℕ → Type 0)
    (which : (n : ℕ) → n ≤ length s.later → ((x : SectionOnPid) × Carries (plan_at s n) pid x) ⊎ IsQuietOn pid (packets_of_span s n out))
    (says : (n m : ℕ) (x : SectionOnPid) → IsInSpan s n m → Carries (plan_at s n) pid x → P m x.bytes) where
  -- the place of the section's last packet is one of the round
  place_within : (n : ℕ) (within : n ≤ length s.later) (x : SectionOnPid) (c : Carries (plan_at s n) pid x)
      → (last_of s k out h pid off P which says n within x c).place < (plan_at s n).rounds.fast_len
  place_within n within x c =
      let last = last_of s k out h pid off P which says n within x c in
      let inside = slice_get_within (fast_packets (plan_at s n).tables) last.place _ last.at in
      omega (arith, inside, (facts s k n within).basics.fast_len)

  -- in each period inside a span
  pub in_period : (n first : ℕ) (x : SectionOnPid) → Carries (plan_at s n) pid x → (within : n ≤ length s.later) → (span_at s n).slot ≤ first → first + (plan_at s n).rounds.period ≤ length out
      → (n < length s.later → first + (plan_at s n).rounds.period ≤ (span_at s (n + 1)).slot) → EndsFrom P pid out first (first + (plan_at s n).rounds.period)
  in_period n first x c within low room to =
      let r = (plan_at s n).rounds in
      let w = (span_at s n).slot in
      let a = first - w in
      let place = (last_of s k out h pid off P which says n within x c).place in
      let found = fast_in_period r place (built_at s k.plans n within).rounds (place_within n within x c) a in
      let m = w + found.0 in
      let b = found.1 in
      let d = found.2 in
      let i : IsInSpan s n m = record { within = within; from = omega arith; to = λ l. (let t = to l in omega (arith, t, low, d)) } in
      let t : table_at r (slot_in_span w m) ≡ Some (Fast place) = ap (table_at r) (from_slot w found.0) ∙ found.3 in
      record {
        slot = m;
        low = omega (arith, low, b);
        high = omega (arith, low, d);
        ends = ends_at s k out h pid off P which says n m i x c (omega (arith, room, low, d)) t;
      }

  -- and as soon as it can behind a switch
  pub behind_switch : (n : ℕ) (x : SectionOnPid) (c : Carries (plan_at s n) pid x) (within : n ≤ length s.later) (to : ℕ) → to ≤ length out
      → (n < length s.later → to ≤ (span_at s (n + 1)).slot)
      → (span_at s n).slot + (last_of s k out h pid off P which says n within x c).place * (plan_at s n).rounds.gap < to → EndsFrom P pid out (span_at s n).slot to
  behind_switch n x c within to room ends l =
      let r = (plan_at s n).rounds in
      let w = (span_at s n).slot in
      let ok = (built_at s k.plans n within).rounds in
      let place = (last_of s k out h pid off P which says n within x c).place in
      let j = place * r.gap in
      let m = w + j in
      let i : IsInSpan s n m = record { within = within; from = omega arith; to = λ more. (let t = ends more in omega (arith, t, l)) } in
      let z : 0 * r.period + place * r.gap ≡ j = omega arith in
      let t : table_at r (slot_in_span w m) ≡ Some (Fast place) = ap (table_at r) (from_slot w j) ∙ ap (table_at r) (sym z) ∙ due_fast r 0 place ok (place_within n within x c) in
      record { slot = m; low = omega arith; high = l; ends = ends_at s k out h pid off P which says n m i x c (omega (arith, room, l)) t }

  -- where it doesn't end behind the switch in time, the window has a period before the switch
  pub room_before : (n : ℕ) (x : SectionOnPid) (c : Carries (plan_at s (n + 1)) pid x) (l : n < length s.later) (within : n + 1 ≤ length s.later) (first to : ℕ) → first + fast_limit_of s.first.request.rate ≡ to
      → to ≤ (span_at s (n + 1)).slot + (last_of s k out h pid off P which says (n + 1) within x c).place * (plan_at s (n + 1)).rounds.gap
      → first + (plan_at s (n + 1)).rounds.period ≤ (span_at s (n + 1)).slot
  room_before n x c l within first to window late =
      let r = (plan_at s (n + 1)).rounds in
      let short = k.schedule.rounds n l in
      let rate : fast_limit_of r.rate ≡ fast_limit_of s.first.request.rate = ap fast_limit_of (rounds_rate s k (n + 1) within) in
      let place = (last_of s k out h pid off P which says (n + 1) within x c).place in
      let below = place_within (n + 1) within x c in
      let few : place * r.gap ≤ r.fast_len * r.gap = mul-le-mul_right r.gap (omega (arith, below)) in
      omega (arith, window, late, short, rate, few)

  -- a period before a switch is in the span before it
  pub before_switch : (n : ℕ) (x : SectionOnPid) → Carries (plan_at s n) pid x → (l : n < length s.later) → (first : ℕ) → first + (plan_at s n).rounds.period ≤ (span_at s (n + 1)).slot → (span_at s (n + 1)).slot ≤ length out
      → (found : EndsFrom P pid out first (span_at s (n + 1)).slot) × ((span_at s n).slot ≤ found.slot)
  before_switch n x c l first room whole =
      let within : n ≤ length s.later = omega (arith, l) in
      let r = (plan_at s n).rounds in
      let pos = positive r (built_at s k.plans n within).rounds in
      let on = a_period_on s k n l r.period (rounds_period s k n within) pos.1 in
      let w = (span_at s (n + 1)).slot in
      let a = w - r.period in
      let e : a + r.period ≡ w = omega (arith, on) in
      let found = in_period n a x c within (omega (arith, on)) (omega (arith, e, whole)) (λ more. omega (arith, e)) in
      let low = found.low in
      let high = found.high in
      (record { slot = found.slot; low = omega (arith, low, e, room); high = omega (arith, high, e); ends = found.ends }, omega (arith, low, on))
