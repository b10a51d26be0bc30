-- Which plan is in force, and which one a packet belongs to: the last that has begun, since slots ascend, and so do their times.
use Rattle.std.proofs.Common.{ℕ, zero, suc, ◌≡◌, ◌+◌, ◌-◌, ◌*◌, ◌/◌, ◌≤◌, ◌<◌, inl, inr, cond, List, [], ◌∷◌, length, get_or, add-one, ap, refl, sym, subst, ◌∙◌, arith}
use Rattle.std.specs.Prelude.{nat_le, count_by, All, AllPairs}
use Rattle.std.proofs.lemmas.Bool.{cases_lt}
use Rattle.std.proofs.lemmas.Bool.Decides.{leb_tells}
use Rattle.std.proofs.lemmas.List.{get_or_default}
use Rattle.std.proofs.lemmas.List.Sums.{sum_by-cons}
use Rattle.std.proofs.lemmas.Nat.{le-div}
use Rattle.std.proofs.Math.Nat.{div-mul-le_self}
use Rattle.schedule.specs.Schedule.{SpanValue, ScheduleValue, spans, span_at, slot_time, number_in_slot, number_for}
use Rattle.schedule.specs.Switches.{SlotsFollow}
use Rattle.schedule.specs.Laws.{IsInForce, IsOfPlan}

-- ---- of a list

-- how many have begun at m
abbrev pub begun : (SpanValue → ℕ) → ℕ → List SpanValue → ℕ
begun from m ws = count_by (λ w. nat_le (from w) m) ws

abbrev pub Ascend : (SpanValue → ℕ) → List SpanValue → Type 0
Ascend from ws = AllPairs (λ a b. from a ≤ from b) ws

ascend_rest : (from : SpanValue → ℕ) (w : SpanValue) (ws : List SpanValue) → Ascend from (w ∷ ws) → Ascend from ws
ascend_rest from w ws up = λ i j d l within. up (suc i) (suc j) d (omega arith) (omega arith)

begun-cons : (from : SpanValue → ℕ) (m : ℕ) (w : SpanValue) (ws : List SpanValue) → begun from m (w ∷ ws) ≡ cond (nat_le (from w) m) 1 0 + begun from m ws
begun-cons from m w ws = sum_by-cons (λ (v : SpanValue). cond (nat_le (from v) m) 1 0) w ws

one_more : (from : SpanValue → ℕ) (m : ℕ) (w : SpanValue) (ws : List SpanValue) → from w ≤ m → begun from m (w ∷ ws) ≡ 1 + begun from m ws
one_more from m w ws h = elim (leb_tells (from w) m) [
  | inl t ↦ begun-cons from m w ws ∙ ap (λ b. cond b 1 0 + begun from m ws) t.0
  | inr t ↦ absurd (omega (arith, t.1))
]

no_more : (from : SpanValue → ℕ) (m : ℕ) (w : SpanValue) (ws : List SpanValue) → m < from w → begun from m (w ∷ ws) ≡ 0 + begun from m ws
no_more from m w ws h = elim (leb_tells (from w) m) [
  | inl t ↦ absurd (omega (arith, t.1))
  | inr t ↦ begun-cons from m w ws ∙ ap (λ b. cond b 1 0 + begun from m ws) t.0
]

none_begun : (from : SpanValue → ℕ) (m : ℕ) (ws : List SpanValue) → All (λ w. m < from w) ws → begun from m ws ≡ 0
none_begun from m [] h = refl
none_begun from m (w ∷ ws) h =
    let rest = none_begun from m ws (λ k d l. h (suc k) d (omega arith)) in
    let first = no_more from m w ws (h 0 w (omega arith)) in omega (arith, rest, first)

-- those that have begun come first
record IsSplit (from : SpanValue → ℕ) (m : ℕ) (ws : List SpanValue) (k : ℕ) (w : SpanValue) : Type 0 where
  has_begun : k < begun from m ws → from w ≤ m
  is_to_come : begun from m ws ≤ k → m < from w

split : (from : SpanValue → ℕ) (m : ℕ) (ws : List SpanValue) (k : ℕ) (d : SpanValue) → Ascend from ws → k < length ws → IsSplit from m ws k (get_or ws k d)
split from m [] k d up l = absurd (omega arith)
split from m (w ∷ ws) zero d up l = elim (leb_tells (from w) m) [
  | inl t ↦
      let size = one_more from m w ws t.1 in
      record { has_begun = λ _. t.1; is_to_come = λ h. absurd (omega (arith, size, h)) }
  | inr t ↦
      let above : All (λ v. m < from v) ws = λ j e within. (let le = up 0 (suc j) e (omega arith) (omega arith) in omega (arith, le, t.1)) in
      let size = no_more from m w ws t.1 in
      let rest = none_begun from m ws above in
      record { has_begun = λ h. absurd (omega (arith, size, rest, h)); is_to_come = λ _. t.1 }
]
split from m (w ∷ ws) (suc k) d up l = elim (leb_tells (from w) m) [
  | inl t ↦
      let size = one_more from m w ws t.1 in
      let rest = split from m ws k d (ascend_rest from w ws up) (omega arith) in
      record { has_begun = λ h. rest.has_begun (omega (arith, size, h)); is_to_come = λ h. rest.is_to_come (omega (arith, size, h)) }
  | inr t ↦
      let above : All (λ v. m < from v) ws = λ j e within. (let le = up 0 (suc j) e (omega arith) (omega arith) in omega (arith, le, t.1)) in
      let size = no_more from m w ws t.1 in
      let rest = none_begun from m ws above in
      record { has_begun = λ h. absurd (omega (arith, size, rest, h)); is_to_come = λ _. above k d (omega arith) }
]

begun_within : (from : SpanValue → ℕ) (m : ℕ) (ws : List SpanValue) → begun from m ws ≤ length ws
begun_within from m [] = omega arith
begun_within from m (w ∷ ws) =
    let rest = begun_within from m ws in
    elim (leb_tells (from w) m) [
      | inl t ↦ (let size = one_more from m w ws t.1 in omega (arith, size, rest))
      | inr t ↦ (let size = no_more from m w ws t.1 in omega (arith, size, rest))
    ]

-- ---- of a schedule

pub number_within : (s : ScheduleValue) (stamp : ℕ) → number_for s stamp ≤ length s.later
number_within s stamp = begun_within (λ w. slot_time s.first w.slot) stamp s.later

-- its slots ascend
pub slots_ascend : (s : ScheduleValue) → SlotsFollow s → (i n : ℕ) → i + suc n ≤ length s.later → (span_at s i).slot < (span_at s (i + suc n)).slot
slots_ascend s follow i zero within =
    let e : i + 1 ≡ i + suc 0 = omega arith in
    subst (λ m. (span_at s i).slot < (span_at s m).slot) e (follow.each i (omega arith)).after
slots_ascend s follow i (suc n) within =
    let e : i + suc n + 1 ≡ i + suc (suc n) = omega arith in
    let before = slots_ascend s follow i n (omega arith) in
    let last = (follow.each (i + suc n) (omega arith)).after in
    subst (λ m. (span_at s i).slot < (span_at s m).slot) e (omega (arith, before, last))

pub later_at : (s : ScheduleValue) (k : ℕ) (d : SpanValue) → k < length s.later → get_or s.later k d ≡ span_at s (k + 1)
later_at s k d within =
    let none : SpanValue = record { slot = 0; plan = s.first } in
    get_or_default s.later k d none within ∙ ap (λ n. get_or (spans s) n none) (sym (add-one k))

slots_are_up : (s : ScheduleValue) → SlotsFollow s → Ascend (λ w. w.slot) s.later
slots_are_up s follow i j d l within =
    let n = j - (i + 1) in
    let e : i + 1 + suc n ≡ j + 1 = omega arith in
    let there : (span_at s (i + 1)).slot < (span_at s (j + 1)).slot =
    subst (λ m. (span_at s (i + 1)).slot < (span_at s m).slot) e (slots_ascend s follow (i + 1) n (omega arith)) in
    let first : (get_or s.later i d).slot ≡ (span_at s (i + 1)).slot = ap (λ (w : SpanValue). w.slot) (later_at s i d (omega arith)) in
    let second : (get_or s.later j d).slot ≡ (span_at s (j + 1)).slot = ap (λ (w : SpanValue). w.slot) (later_at s j d within) in
    omega (arith, there, first, second)

-- a later slot goes out later, or at the same time
times_are_up : (s : ScheduleValue) → 0 < s.first.request.rate → SlotsFollow s → Ascend (λ w. slot_time s.first w.slot) s.later
times_are_up s some follow i j d l within =
    let rate = s.first.request.rate in
    let a = (188 * (get_or s.later i d).slot + 10) * 216000000 in
    let b = (188 * (get_or s.later j d).slot + 10) * 216000000 in
    let up = slots_are_up s follow i j d l within in
    le-div (a / rate) b rate some (let low = div-mul-le_self a rate in omega (arith, low, up))

-- the last of what has begun
record IsLastBegun (s : ScheduleValue) (from : SpanValue → ℕ) (m number : ℕ) : Type 0 where
  within : number ≤ length s.later
  has_begun : 0 < number → from (span_at s number) ≤ m
  is_last : (k : ℕ) → number < k → k ≤ length s.later → m < from (span_at s k)

last_begun : (s : ScheduleValue) (from : SpanValue → ℕ) (m : ℕ) → Ascend from s.later → IsLastBegun s from m (begun from m s.later)
last_begun s from m up =
    let number = begun from m s.later in
    let none : SpanValue = record { slot = 0; plan = s.first } in
    let size : number ≤ length s.later = begun_within from m s.later in
    record {
      within = size;
      has_begun = λ some.
          let k = number - 1 in
          let e : k + 1 ≡ number = omega (arith, some) in
          let there = (split from m s.later k none up (omega (arith, some, size))).has_begun (omega (arith, some)) in
          subst (λ n. from (span_at s n) ≤ m) e (subst (λ w. from w ≤ m) (later_at s k none (omega (arith, some, size))) there);
      is_last = λ k past to.
          let j = k - 1 in
          let e : j + 1 ≡ k = omega (arith, past) in
          let there = (split from m s.later j none up (omega (arith, past, to))).is_to_come (omega (arith, past)) in
          subst (λ n. m < from (span_at s n)) e (subst (λ w. m < from w) (later_at s j none (omega (arith, past, to))) there);
    }

pub in_force : (s : ScheduleValue) → SlotsFollow s → (m : ℕ) → IsInForce s m (number_in_slot s m)
in_force s follow m =
    let last = last_begun s (λ w. w.slot) m (slots_are_up s follow) in
    record { within = last.within; has_begun = from_start (number_in_slot s m) last.has_begun; is_last = last.is_last }
  where
    from_start : (n : ℕ) → (0 < n → (span_at s n).slot ≤ m) → (span_at s n).slot ≤ m
    from_start zero h = omega arith
    from_start (suc n) h = h (omega arith)

pub belongs : (s : ScheduleValue) → 0 < s.first.request.rate → SlotsFollow s → (stamp : ℕ) → IsOfPlan s stamp (number_for s stamp)
belongs s some follow stamp =
    let last = last_begun s (λ w. slot_time s.first w.slot) stamp (times_are_up s some follow) in
    record { within = last.within; has_begun = last.has_begun; is_last = last.is_last }

-- and so it is in each slot of its span
pub in_span : (s : ScheduleValue) → SlotsFollow s → (number m : ℕ) → number ≤ length s.later → (span_at s number).slot ≤ m
    → (number < length s.later → m < (span_at s (number + 1)).slot) → number_in_slot s m ≡ number
in_span s follow number m within from to =
    let last = in_force s follow m in
    elim (cases_lt (number_in_slot s m) number) [
      | inl l ↦ (let late = last.is_last number l within in absurd (omega (arith, late, from)))
      | inr g ↦
          elim (cases_lt number (number_in_slot s m)) [
            | inl l ↦
                let next = to (omega (arith, l, last.within)) in
                absurd (omega (arith, last.has_begun, next, next_up (number_in_slot s m) l last.within))
            | inr h ↦ omega (arith, g, h)
          ]
    ]
  where
    next_up : (n : ℕ) → number < n → n ≤ length s.later → (span_at s (number + 1)).slot ≤ (span_at s n).slot
    next_up n l size = elim (cases_lt (number + 1) n) [
      | inl more ↦
          let k = n - (number + 2) in
          let e : number + 1 + suc k ≡ n = omega (arith, more) in
          let there : (span_at s (number + 1)).slot < (span_at s n).slot =
          subst (λ j. (span_at s (number + 1)).slot < (span_at s j).slot) e (slots_ascend s follow (number + 1) k (omega (arith, more, size))) in
          omega (arith, there)
      | inr same ↦
          let e : number + 1 ≡ n = omega (arith, l, same) in
          subst (λ j. (span_at s (number + 1)).slot ≤ (span_at s j).slot) e (omega arith)
    ]
