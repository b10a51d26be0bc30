-- How often a packet comes, and how far table slots are apart.
use Rattle.std.proofs.Common.{ℕ, ◌+◌, ◌*◌, ◌/◌, ◌%◌, ◌<◌, ◌≤◌, ◌≡◌, Some, refl, ap, ◌∙◌, sym, subst, arith, inl, inr}
use Rattle.std.proofs.Math.Nat.{mul-le-mul_right, mul_assoc}
use Rattle.std.proofs.lemmas.Nat.{div-add-mod', mod_below, mod-mul-add, le-div}
use Rattle.std.proofs.lemmas.Bool.{cases_lt, cases_order}
use Rattle.rounds.specs.declared.table_place.TablePlace.{TablePlace}
use Rattle.rounds.specs.declared.table_place.TablePlace.TheVariants.{Fast, Slow}
use Rattle.rounds.specs.Rounds.{RoundsValue, IsRounds, IsPlace, ArePlaces, RoundsBegin, RecursWithin, AreApart, place_at, table_at, fast_limit_of, sdt_limit_of, nit_limit_of}
use Rattle.rounds.proofs.RoundLaws.{told, step_within, positive, due_fast, due_slow, place_fast, place_slow}

-- a place of each cycle comes at least once a cycle, wherever one begins to look
record Next (cycle offset first : ℕ) : Type 0 where
  round : ℕ
  reached : first ≤ round * cycle + offset
  soon : round * cycle + offset < first + cycle

next_of : (cycle offset first : ℕ) → offset < cycle → Next cycle offset first
next_of t o first l =
    let k = first / t in
    let whole = div-add-mod' first t in
    let rest = mod_below first t (omega arith) in
    elim (cases_lt o (first % t)) [
      | inl p ↦ let e : (k + 1) * t ≡ k * t + t = omega arith in record { round = k + 1; reached = omega arith; soon = omega arith }
      | inr p ↦ record { round = k; reached = omega arith; soon = omega arith }
    ]

pub fast_in_period : (r : RoundsValue) (place : ℕ) → IsRounds r → place < r.fast_len → RecursWithin r (Fast place) r.period
fast_in_period r place ok l first =
    let g = positive r ok in
    let fits = step_within r place ok (omega arith) in
    let n = next_of r.period (place * r.gap) first (omega arith) in
    (n.round * r.period + place * r.gap, n.reached, n.soon, due_fast r n.round place ok l)

pub fast_recurs : (r : RoundsValue) (place : ℕ) → IsRounds r → place < r.fast_len → RecursWithin r (Fast place) (fast_limit_of r.rate)
fast_recurs r place ok l first =
    let found = fast_in_period r place ok l first in
    let limit = ok.period in
    let b = found.2 in
    (found.0, found.1, omega arith, found.3)

-- the slow packet of a place comes once in as many rounds as there are places
cycle_of : (n length place period offset : ℕ) → n * (length * period) + (place * period + offset) ≡ (n * length + place) * period + offset
cycle_of n length place period offset = grind (arith, mul_assoc)

offset_within : (length place period offset : ℕ) → place < length → offset < period → place * period + offset < length * period
offset_within length place period offset l o =
    let m : (place + 1) * period ≤ length * period = mul-le-mul_right period (omega arith) in
    omega arith

pub slow_recurs : (r : RoundsValue) (place : ℕ) → IsRounds r → place < r.slow_len → RecursWithin r (Slow place) (sdt_limit_of r.rate)
slow_recurs r place ok l first =
    let g = positive r ok in
    let fits = step_within r r.fast_len ok (omega arith) in
    let o = r.fast_len * r.gap in
    let within = offset_within r.slow_len place r.period o l (omega arith) in
    let n = next_of (r.slow_len * r.period) (place * r.period + o) first within in
    let k = n.round * r.slow_len + place in
    let e = cycle_of n.round r.slow_len place r.period o in
    let limit = ok.rotation in
    let a = n.reached in
    let b = n.soon in
    let turn : k % r.slow_len ≡ place = mod-mul-add n.round r.slow_len place l in
    (k * r.period + o, omega arith, omega arith, due_slow r k r.fast_len ok refl ∙ ap (λ z. Some (Slow z)) turn)

ten_above : (rate : ℕ) → sdt_limit_of rate ≤ nit_limit_of rate
ten_above rate = let m = div-add-mod' (2 * rate) 1504 in le-div (2 * rate / 1504) (10 * rate) 1504 (omega arith) (omega arith)

pub slow_recurs_late : (r : RoundsValue) (place : ℕ) → IsRounds r → place < r.slow_len → RecursWithin r (Slow place) (nit_limit_of r.rate)
slow_recurs_late r place ok l first =
    let found = slow_recurs r place ok l first in
    let longer = ten_above r.rate in
    let b = found.2 in
    (found.0, found.1, omega arith, found.3)

pub rounds_begin : (r : RoundsValue) → IsRounds r → RoundsBegin r
rounds_begin r ok round =
    let fast = ok.fast in
    let e : round * r.period + 0 * r.gap ≡ round * r.period = omega arith in
    ap (table_at r) (sym e) ∙ due_fast r round 0 ok (omega arith)

place_known : (r : RoundsValue) (k s : ℕ) (place : TablePlace) → 0 < r.slow_len → s ≤ r.fast_len → place_at r k s ≡ Some place → IsPlace r place
place_known r k s place p l e = elim (cases_lt s r.fast_len) [
  | inl f ↦ let at = place_fast r k s f in let is : Fast s ≡ place = cc in subst (IsPlace r) is f
  | inr f ↦ let at = place_slow r k s (omega arith) in let is : Slow (k % r.slow_len) ≡ place = cc in subst (IsPlace r) is (mod_below k r.slow_len p)
]

pub are_places : (r : RoundsValue) → IsRounds r → ArePlaces r
are_places r ok m place e =
    let g = positive r ok in
    let step = told r m place e in
    place_known r (m / r.period) (m % r.period / r.gap) place g.2 step.fits step.place_is

-- two steps, in one round or in two
steps_apart : (r : RoundsValue) (m n k s j t : ℕ) → IsRounds r → s ≤ r.fast_len → t ≤ r.fast_len
    → m ≡ k * r.period + s * r.gap → n ≡ j * r.period + t * r.gap → m < n → m + r.gap ≤ n
steps_apart r m n k s j t ok fs ft em en l = elim (cases_order k j) [
  | inl e ↦
      let same : k * r.period ≡ j * r.period = ap (λ z. z * r.period) e in
      elim (cases_lt s t) [
        | inl p ↦ let u : (s + 1) * r.gap ≤ t * r.gap = mul-le-mul_right r.gap (omega arith) in omega arith
        | inr p ↦ let u : t * r.gap ≤ s * r.gap = mul-le-mul_right r.gap p in absurd (omega arith)
      ]
  | inr o ↦ elim o [
    | inl p ↦
        let fits = step_within r s ok fs in
        let u : (k + 1) * r.period ≤ j * r.period = mul-le-mul_right r.period (omega arith) in
        omega arith
    | inr p ↦
        let fits = step_within r t ok ft in
        let u : (j + 1) * r.period ≤ k * r.period = mul-le-mul_right r.period (omega arith) in
        absurd (omega arith)
  ]
]

pub are_apart : (r : RoundsValue) → IsRounds r → AreApart r
are_apart r ok m n a b l ea eb =
    let s = told r m a ea in
    let t = told r n b eb in
    steps_apart r m n (m / r.period) (m % r.period / r.gap) (n / r.period) (n % r.period / r.gap) ok s.fits t.fits s.slot t.slot l
