-- What a slot carries, by its round and its step.
use Rattle.std.proofs.Common.{ℕ, ◌+◌, ◌*◌, ◌/◌, ◌%◌, ◌<◌, ◌≤◌, ◌≡◌, Bool, true, false, cond, eqb, Option, Some, None, max, ap, ◌∙◌, sym, refl, arith, inl, inr}
use Rattle.std.proofs.Math.Nat.{mul-le-mul_right}
use Rattle.std.proofs.lemmas.Nat.{div-mul-add, mod-mul-add, div-add-mod'}
use Rattle.std.proofs.lemmas.Bool.{eqb-true, ne_eqb, eq-eqb, lt-ltb, le-ltb, cases_Bool, cases_lt}
use Rattle.rounds.specs.declared.table_place.TablePlace.{TablePlace}
use Rattle.rounds.specs.declared.table_place.TablePlace.TheVariants.{Fast, Slow}
use Rattle.rounds.specs.Rounds.{RoundsValue, IsRounds, place_at, table_at}

two_below : (n : ℕ) → 2 ≤ max 2 n
two_below n = omega arith

pub two_gap : (r : RoundsValue) → IsRounds r → 2 ≤ r.gap
two_gap r ok = let l = two_below ((r.rate + 999999) / 1000000) in let e = ok.gap in rw e l

one_gap : (f g p : ℕ) → (f + 1) * g ≤ p → g ≤ p
one_gap f g p l = let m : 1 * g ≤ (f + 1) * g = mul-le-mul_right g (omega arith) in omega arith

-- no divisor is zero
pub positive : (r : RoundsValue) → IsRounds r → (0 < r.gap) × (0 < r.period) × (0 < r.slow_len)
positive r ok =
    let l = two_gap r ok in
    let m = one_gap r.fast_len r.gap r.period ok.round in
    let s = ok.slow in
    (omega arith, omega arith, omega arith)

-- each step of a round is a gap before its end
pub step_within : (r : RoundsValue) (s : ℕ) → IsRounds r → s ≤ r.fast_len → s * r.gap + r.gap ≤ r.period
step_within r s ok l =
    let m : (s + 1) * r.gap ≤ (r.fast_len + 1) * r.gap = mul-le-mul_right r.gap (omega arith) in
    let fits = ok.round in
    omega arith

-- what a slot carries, by its round and its place in the round
abbrev pub of_parts : RoundsValue → ℕ → ℕ → ℕ → Option TablePlace
of_parts r k q d = cond (eqb d 0) (place_at r k q) None

pub table_parts : (r : RoundsValue) (k x : ℕ) → x < r.period → table_at r (k * r.period + x) ≡ of_parts r k (x / r.gap) (x % r.gap)
unfolding table_at
table_parts r k x l =
    ap (λ z. of_parts r ((k * r.period + x) / r.period) (z / r.gap) (z % r.gap)) (mod-mul-add k r.period x l)
    ∙ ap (λ z. of_parts r z (x / r.gap) (x % r.gap)) (div-mul-add k r.period x l)

-- a step is due
pub due_at : (r : RoundsValue) (k s : ℕ) → IsRounds r → s ≤ r.fast_len → table_at r (k * r.period + s * r.gap) ≡ place_at r k s
due_at r k s ok l =
    let g = two_gap r ok in
    let fits = step_within r s ok l in
    let e : s * r.gap + 0 ≡ s * r.gap = omega arith in
    let q : (s * r.gap) / r.gap ≡ s = ap (λ z. z / r.gap) (sym e) ∙ div-mul-add s r.gap 0 (omega arith) in
    let d : (s * r.gap) % r.gap ≡ 0 = ap (λ z. z % r.gap) (sym e) ∙ mod-mul-add s r.gap 0 (omega arith) in
    table_parts r k (s * r.gap) (omega arith)
    ∙ ap (λ z. of_parts r k z ((s * r.gap) % r.gap)) q ∙ ap (of_parts r k s) d

-- between two steps of a round nothing is due
pub due_between : (r : RoundsValue) (k s d : ℕ) → IsRounds r → s ≤ r.fast_len → 0 < d → d < r.gap → table_at r (k * r.period + (s * r.gap + d)) ≡ None
due_between r k s d ok l p u =
    let fits = step_within r s ok l in
    table_parts r k (s * r.gap + d) (omega arith)
    ∙ ap (λ z. of_parts r k ((s * r.gap + d) / r.gap) z) (mod-mul-add s r.gap d u)
    ∙ ap (λ b. cond b (place_at r k ((s * r.gap + d) / r.gap)) None) (ne_eqb d 0 (λ z. absurd (omega arith)))

pub place_fast : (r : RoundsValue) (k s : ℕ) → s < r.fast_len → place_at r k s ≡ Some (Fast s)
place_fast r k s l = ap (λ b. cond b (Some (Fast s)) (cond (eqb s r.fast_len) (Some (Slow (k % r.slow_len))) None)) (lt-ltb s r.fast_len l)

pub place_slow : (r : RoundsValue) (k s : ℕ) → s ≡ r.fast_len → place_at r k s ≡ Some (Slow (k % r.slow_len))
place_slow r k s e =
    ap (λ b. cond b (Some (Fast s)) (cond (eqb s r.fast_len) (Some (Slow (k % r.slow_len))) None)) (le-ltb s r.fast_len (omega (arith, e)))
    ∙ ap (λ b. cond b (Some (Slow (k % r.slow_len))) None) (eq-eqb s r.fast_len e)

place_none : (r : RoundsValue) (k s : ℕ) → r.fast_len < s → place_at r k s ≡ None
place_none r k s l =
    ap (λ b. cond b (Some (Fast s)) (cond (eqb s r.fast_len) (Some (Slow (k % r.slow_len))) None)) (le-ltb s r.fast_len (omega arith))
    ∙ ap (λ b. cond b (Some (Slow (k % r.slow_len))) None) (ne_eqb s r.fast_len (λ e. absurd (omega arith)))

pub due_fast : (r : RoundsValue) (k s : ℕ) → IsRounds r → s < r.fast_len → table_at r (k * r.period + s * r.gap) ≡ Some (Fast s)
due_fast r k s ok l = due_at r k s ok (omega arith) ∙ place_fast r k s l

pub due_slow : (r : RoundsValue) (k s : ℕ) → IsRounds r → s ≡ r.fast_len → table_at r (k * r.period + s * r.gap) ≡ Some (Slow (k % r.slow_len))
due_slow r k s ok e = due_at r k s ok (omega arith) ∙ place_slow r k s e

-- what is told is a step of a round
pub record IsStep (r : RoundsValue) (m k s : ℕ) (place : TablePlace) : Type 0 where
  pub slot : m ≡ k * r.period + s * r.gap
  pub fits : s ≤ r.fast_len
  pub place_is : place_at r k s ≡ Some place

cond_some : (b : Bool) (o : Option TablePlace) (place : TablePlace) → cond b o None ≡ Some place → (b ≡ true) × (o ≡ Some place)
cond_some true o place e = (refl, e)
cond_some false o place e = cc

place_fits : (r : RoundsValue) (k s : ℕ) (place : TablePlace) → place_at r k s ≡ Some place → s ≤ r.fast_len
place_fits r k s place e = elim (cases_lt r.fast_len s) [
  | inl l ↦ let n = place_none r k s l in absurd cc
  | inr l ↦ l
]

slot_is : (m p g : ℕ) → m % p % g ≡ 0 → m ≡ m / p * p + m % p / g * g
slot_is m p g z =
    let a = div-add-mod' m p in
    let b = div-add-mod' (m % p) g in
    omega (arith, a, b, z)

pub told : (r : RoundsValue) (m : ℕ) (place : TablePlace) → table_at r m ≡ Some place → IsStep r m (m / r.period) (m % r.period / r.gap) place
unfolding table_at
told r m place e =
    let parts = cond_some (eqb (m % r.period % r.gap) 0) (place_at r (m / r.period) (m % r.period / r.gap)) place e in
    record {
      slot = slot_is m r.period r.gap (eqb-true (m % r.period % r.gap) 0 parts.0);
      fits = place_fits r (m / r.period) (m % r.period / r.gap) place parts.1;
      place_is = parts.1;
    }

-- behind the slow packet nothing is due until the next round
pub due_after : (r : RoundsValue) (k x : ℕ) → IsRounds r → r.fast_len * r.gap < x → x < r.period → table_at r (k * r.period + x) ≡ None
due_after r k x ok l u = elim (cases_Bool (eqb (x % r.gap) 0)) [
  | inl e ↦
      let q = x / r.gap in
      let whole = div-add-mod' x r.gap in
      let rest = eqb-true (x % r.gap) 0 e in
      let past : r.fast_len < q = elim (cases_lt r.fast_len q) [
        | inl p ↦ p
        | inr p ↦ let m : q * r.gap ≤ r.fast_len * r.gap = mul-le-mul_right r.gap p in absurd (omega arith)
      ] in
      table_parts r k x u ∙ ap (λ b. cond b (place_at r k q) None) e ∙ place_none r k q past
  | inr e ↦ table_parts r k x u ∙ ap (λ b. cond b (place_at r k (x / r.gap)) None) e
]
