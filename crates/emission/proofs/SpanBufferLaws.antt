-- The transport buffers of tables over all spans: slots of tables are a gap apart across a switch too, since a switch is where a round of
-- the plan before would begin.
use Rattle.std.proofs.Common.{ℕ, zero, suc, ◌+◌, ◌-◌, ◌*◌, ◌/◌, ◌≤◌, ◌<◌, ◌≡◌, ◌∙◌, inl, inr, List, [], ◌∷◌, Some, length, take, get_or, ap, refl, sym, subst, arith}
use Rattle.std.specs.List.{All}
use Rattle.std.proofs.lemmas.Bool.{cases_lt}
use Rattle.std.proofs.lemmas.Nat.{div-add-mod'}
use Rattle.std.proofs.lemmas.List.Elements.{All-nil, All-cons, Contains-get_or}
use Rattle.rounds.specs.declared.table_place.TablePlace.{TablePlace}
use Rattle.rounds.specs.declared.table_place.TablePlace.TheVariants.{Fast}
use Rattle.rounds.specs.Rounds.{gap_of, table_at}
use Rattle.rounds.proofs.RecurringLaws.{are_apart, rounds_begin}
use Rattle.schedule.specs.Schedule.{ScheduleValue, span_at, plan_at, number_in_slot}
use Rattle.schedule.specs.Switches.{SlotsFollow}
use Rattle.schedule.proofs.ForceLaws.{slots_ascend}
use Rattle.emission.specs.TableBuffers.{BufferFits, table_leak}
use Rattle.emission.specs.Spans.{span_in_slot, slot_in_span, table_in, IsEmissionOf, SpanBuffersFit}
use Rattle.emission.proofs.TableLevelLaws.{AreInSlots, AreGapApart, slot_buffer_fits}
use Rattle.emission.proofs.TableSlotLaws.{IsTablePid, slot_of}
use Rattle.emission.proofs.SpanLaws.{to_slot, by_span}
use Rattle.emission.proofs.SpanFacts.{IsKnown, built_at, rounds_rate, rounds_period, request_rate, IsOff, low_off, pmt_off, table_pid}

-- the difference of two multiples
multiples : (a b x y p : ℕ) → a ≡ x * p → b ≡ y * p → a ≤ b → b ≡ a + (y - x) * p
multiples a b x y p ea eb l = elim (cases_lt y x) [
  | inl less ↦
      let k = x - y in
      let e : x ≡ y + k = omega (arith, less) in
      let more : (y + k) * p ≡ y * p + k * p = omega arith in
      let ex : x * p ≡ (y + k) * p = ap (λ n. n * p) e in
      let none : y - x ≡ 0 = omega (arith, less) in
      let z : (y - x) * p ≡ 0 = ap (λ n. n * p) none ∙ omega arith in
      omega (arith, ea, eb, l, more, ex, z)
  | inr most ↦
      let k = y - x in
      let e : y ≡ x + k = omega (arith, most) in
      let more : (x + k) * p ≡ x * p + k * p = omega arith in
      let ey : y * p ≡ (x + k) * p = ap (λ n. n * p) e in
      omega (arith, ea, eb, more, ey)
]

-- the slot of each span is a multiple of the period
round_of : (s : ScheduleValue) → SlotsFollow s → (number : ℕ) → number ≤ length s.later
    → (span_at s number).slot ≡ (span_at s number).slot / s.first.request.period * s.first.request.period
round_of s follow zero within = omega arith
round_of s follow (suc n) within =
    let e : n + 1 ≡ suc n = omega arith in
    let Multiple : ℕ → Type 0 = λ k. (span_at s k).slot ≡ (span_at s k).slot / s.first.request.period * s.first.request.period in
    let slot = (span_at s (n + 1)).slot in
    let parts = div-add-mod' slot s.first.request.period in
    subst Multiple e (omega (arith, parts, (follow.each n (omega (arith, within))).round))

-- of two slots of tables in one span
apart_within : (s : ScheduleValue) → IsKnown s → (number m n : ℕ) (a b : TablePlace) → number ≤ length s.later → (span_at s number).slot ≤ m → m < n
    → table_in (span_at s number) m ≡ Some a → table_in (span_at s number) n ≡ Some b → m + (plan_at s number).rounds.gap ≤ n
apart_within s k number m n a b within from l ta tb =
    let slot = (span_at s number).slot in
    let r = (plan_at s number).rounds in
    let first = to_slot slot m from in
    let second = to_slot slot n (omega (arith, from, l)) in
    let gap = are_apart r (built_at s k.plans number within).rounds (slot_in_span slot m) (slot_in_span slot n) a b (omega (arith, first, second, l)) ta tb in
    omega (arith, first, second, gap)

-- a slot of a table, and the slot in which the next span begins
apart_from_next : (s : ScheduleValue) → IsKnown s → (number m : ℕ) (a : TablePlace) → number < length s.later → (span_at s number).slot ≤ m
    → m < (span_at s (number + 1)).slot → table_in (span_at s number) m ≡ Some a → m + (plan_at s number).rounds.gap ≤ (span_at s (number + 1)).slot
apart_from_next s k number m a within from to ta =
    let slot = (span_at s number).slot in
    let next = (span_at s (number + 1)).slot in
    let period = s.first.request.period in
    let r = (plan_at s number).rounds in
    let ok = (built_at s k.plans number (omega (arith, within))).rounds in
    let same : r.period ≡ period = rounds_period s k number (omega (arith, within)) in
    let count = next / period - slot / period in
    let is : next ≡ slot + count * period =
    multiples slot next (slot / period) (next / period) period (round_of s k.schedule.slots number (omega (arith, within)))
    (round_of s k.schedule.slots (number + 1) (omega (arith, within))) (omega (arith, from, to)) in
    let begins : table_at r (count * period) ≡ Some (Fast 0) = ap (λ p. table_at r (count * p)) (sym same) ∙ rounds_begin r ok count in
    let first = to_slot slot m from in
    let gap = are_apart r ok (slot_in_span slot m) (count * period) a (Fast 0) (omega (arith, first, to, is)) ta begins in
    omega (arith, first, gap, is)

later_slot : (s : ScheduleValue) → SlotsFollow s → (i j : ℕ) → i < j → j ≤ length s.later → (span_at s (i + 1)).slot ≤ (span_at s j).slot
later_slot s follow i j l within = elim (cases_lt (i + 1) j) [
  | inl more ↦
      let k = j - (i + 2) in
      let e : i + 1 + suc k ≡ j = omega (arith, more) in
      let up : (span_at s (i + 1)).slot < (span_at s j).slot =
      subst (λ n. (span_at s (i + 1)).slot < (span_at s n).slot) e (slots_ascend s follow (i + 1) k (omega (arith, more, within))) in
      omega (arith, up)
  | inr same ↦
      let e : i + 1 ≡ j = omega (arith, l, same) in
      subst (λ n. (span_at s (i + 1)).slot ≤ (span_at s n).slot) e (omega arith)
]

gap_at : (s : ScheduleValue) → IsKnown s → (number : ℕ) → number ≤ length s.later → (plan_at s number).rounds.gap ≡ gap_of s.first.request.rate
gap_at s k number within = (built_at s k.plans number within).rounds.gap ∙ ap gap_of (rounds_rate s k number within)

-- two slots of tables are a gap apart
pub apart : (s : ScheduleValue) → IsKnown s → AreGapApart (gap_of s.first.request.rate) (λ m. table_in (span_in_slot s m) m)
apart s k m n a b l ta tb =
    let i = number_in_slot s m in
    let j = number_in_slot s n in
    let one = k.force m in
    let two = k.force n in
    let gap = gap_at s k i one.within in
    elim (cases_lt i j) [
      | inl up ↦
          let next = one.is_last (i + 1) (omega arith) (omega (arith, up, two.within)) in
          let there = apart_from_next s k i m a (omega (arith, up, two.within)) one.has_begun next ta in
          let later = later_slot s k.schedule.slots i j up two.within in
          omega (arith, there, later, two.has_begun, gap)
      | inr most ↦
          elim (cases_lt j i) [
            | inl down ↦ (let late = two.is_last i down one.within in absurd (omega (arith, late, one.has_begun, l)))
            | inr least ↦
                let e : j ≡ i = omega (arith, most, least) in
                let there = apart_within s k i m n a b one.within one.has_begun l ta (subst (λ w. table_in (span_at s w) n ≡ Some b) e tb) in
                omega (arith, there, gap)
          ]
    ]

-- packets on such PIDs stand in slots of tables
in_slots : (s : ScheduleValue) → IsKnown s → (out : List (List ℕ)) (pids : List ℕ) → All (IsOff s) pids → IsEmissionOf s out
    → AreInSlots (λ m. table_in (span_in_slot s m) m) pids out
in_slots s k out pids free h m q e on =
    let w = span_in_slot s m in
    let tables : All (IsTablePid w.plan.request.streams) pids =
    λ i d l. table_pid s (get_or pids i d) (free i d l) (number_in_slot s m) (k.force m).within in
    slot_of w.plan (take m out) pids q (table_in w m) tables (by_span s out h m q e) on

pub buffers_fit : (s : ScheduleValue) → IsKnown s → (out : List (List ℕ)) → IsEmissionOf s out → SpanBuffersFit s out
buffers_fit s k out h = λ number within. record {
  services = λ i d l. (
      let r = (plan_at s number).request in
      let v = get_or r.services i d in
      fit number within (0 ∷ v.pmt ∷ [])
      (All-cons (IsOff s) 0 (v.pmt ∷ []) (low_off s k 0 (omega arith)) (one v.pmt (pmt_off s k number v within (Contains-get_or r.services i d l)))));
  sdt = fit number within (17 ∷ []) (one 17 (low_off s k 17 (omega arith)));
  nit = fit number within (16 ∷ []) (one 16 (low_off s k 16 (omega arith)));
}
  where
    one : (pid : ℕ) → IsOff s pid → All (IsOff s) (pid ∷ [])
    one pid is = All-cons (IsOff s) pid [] is (All-nil (IsOff s))

    fit : (number : ℕ) → number ≤ length s.later → (pids : List ℕ) → All (IsOff s) pids → BufferFits (plan_at s number).request.rate table_leak pids out
    fit number within pids free =
        let range = (built_at s k.plans 0 (omega arith)).request.rate in
        subst (λ (rate : ℕ). BufferFits rate table_leak pids out) (sym (request_rate s k number within))
        (slot_buffer_fits s.first.request.rate (gap_of s.first.request.rate) (λ m. table_in (span_in_slot s m) m) pids out refl
        (omega (arith, range.0)) (omega (arith, range.1)) (apart s k) (in_slots s k out pids free h))
