-- How many slots below one carry fast packets, and slow ones: they come in turn.
use Rattle.std.proofs.Common.{ℕ, zero, suc, ◌+◌, ◌-◌, ◌*◌, ◌%◌, ◌<◌, ◌≤◌, ◌≡◌, Option, Some, None, refl, ap, ◌∙◌, sym, arith, inl, inr}
use Rattle.std.proofs.Math.Nat.{mul-le-mul_right}
use Rattle.std.proofs.lemmas.Nat.{mod-mul-add}
use Rattle.std.proofs.lemmas.Bool.{cases_lt, cases_eq}
use Rattle.rounds.specs.declared.table_place.TablePlace.{TablePlace}
use Rattle.rounds.specs.declared.table_place.TablePlace.TheVariants.{Fast, Slow}
use Rattle.rounds.specs.Rounds.{RoundsValue, IsRounds, table_at}
use Rattle.rounds.proofs.RoundLaws.{step_within, positive, due_fast, due_slow, due_between, due_after}

-- one for a fast packet, and one for a slow one
unfoldable pub fast_one : Option TablePlace → ℕ
fast_one None = 0
fast_one (Some (Fast j)) = 1
fast_one (Some (Slow j)) = 0

unfoldable pub slow_one : Option TablePlace → ℕ
slow_one None = 0
slow_one (Some (Fast j)) = 0
slow_one (Some (Slow j)) = 1

-- how many of them the slots below have
unfoldable pub turns : (Option TablePlace → ℕ) → RoundsValue → ℕ → ℕ
turns one r zero = 0
turns one r (suc m) = turns one r m + one (table_at r m)

-- step s of round k is w slots on
record Ahead (r : RoundsValue) (m k s w : ℕ) : Type 0 where
  fits : s ≤ r.fast_len
  slot : m + w ≡ k * r.period + s * r.gap
  soon : 1 ≤ s → w < r.gap
  pause : s ≡ 0 → w + r.fast_len * r.gap < r.period

-- a product that isn't 0 has a factor that isn't
before : (k p : ℕ) → 0 < k * p → (k - 1) * p + p ≡ k * p
before zero p l = absurd (omega arith)
before (suc k) p l = let e : suc k - 1 ≡ k = omega arith in rw e (omega arith)

waits : (r : RoundsValue) (m k s w : ℕ) → IsRounds r → Ahead r m k s w → 0 < w → table_at r m ≡ None
waits r m k s w ok a l = elim (cases_eq s 0) [
  | inl z ↦
      let room = a.pause z in
      let slot = a.slot in
      let none : s * r.gap ≡ 0 = ap (λ n. n * r.gap) z ∙ omega arith in
      let back = before k r.period (omega arith) in
      let e : (k - 1) * r.period + (r.period - w) ≡ m = omega arith in
      ap (table_at r) (sym e) ∙ due_after r (k - 1) (r.period - w) ok (omega arith) (omega arith)
  | inr n ↦
      let one : 1 ≤ s = omega (arith, n) in
      let soon = a.soon one in
      let slot = a.slot in
      let fits = a.fits in
      let back = before s r.gap (let l : 1 * r.gap ≤ s * r.gap = mul-le-mul_right r.gap one in omega arith) in
      let e : k * r.period + ((s - 1) * r.gap + (r.gap - w)) ≡ m = omega arith in
      ap (table_at r) (sym e) ∙ due_between r k (s - 1) (r.gap - w) ok (omega arith) (omega arith) (omega arith)
]

is_fast : (r : RoundsValue) (m k s : ℕ) → IsRounds r → Ahead r m k s 0 → s < r.fast_len → table_at r m ≡ Some (Fast s)
is_fast r m k s ok a l =
    let slot = a.slot in
    let e : k * r.period + s * r.gap ≡ m = omega arith in
    ap (table_at r) (sym e) ∙ due_fast r k s ok l

is_slow : (r : RoundsValue) (m k s : ℕ) → IsRounds r → Ahead r m k s 0 → r.fast_len ≤ s → table_at r m ≡ Some (Slow (k % r.slow_len))
is_slow r m k s ok a l =
    let slot = a.slot in
    let fits = a.fits in
    let e : k * r.period + s * r.gap ≡ m = omega arith in
    ap (table_at r) (sym e) ∙ due_slow r k s ok (omega arith)

-- where a slot stands, and how many packets went before it
record Stand (r : RoundsValue) (m : ℕ) : Type 0 where
  round : ℕ
  step : ℕ
  wait : ℕ
  ahead : Ahead r m round step wait
  fast : turns fast_one r m ≡ round * r.fast_len + step
  slow : turns slow_one r m ≡ round

begin : (r : RoundsValue) → IsRounds r → Stand r 0
unfolding turns
begin r ok =
    let g = positive r ok in
    let fits = step_within r r.fast_len ok (omega arith) in
    record {
      round = 0;
      step = 0;
      wait = 0;
      ahead = record { fits = omega arith; slot = omega arith; soon = λ l. absurd (omega arith); pause = λ _. omega arith };
      fast = omega arith;
      slow = refl;
    }

on_waits : (r : RoundsValue) (m : ℕ) → IsRounds r → (b : Stand r m) → 0 < b.wait → Stand r (suc m)
unfolding turns fast_one slow_one
on_waits r m ok b l =
    let a = b.ahead in
    let t = waits r m b.round b.step b.wait ok a l in
    let slot = a.slot in
    record {
      round = b.round;
      step = b.step;
      wait = b.wait - 1;
      ahead = record {
        fits = a.fits;
        slot = omega arith;
        soon = λ o. let h = a.soon o in omega arith;
        pause = λ z. let h = a.pause z in omega arith;
      };
      fast = ap (λ o. turns fast_one r m + fast_one o) t ∙ let f = b.fast in omega arith;
      slow = ap (λ o. turns slow_one r m + slow_one o) t ∙ let f = b.slow in omega arith;
    }

on_fast : (r : RoundsValue) (m : ℕ) → IsRounds r → (b : Stand r m) → b.wait ≡ 0 → b.step < r.fast_len → Stand r (suc m)
unfolding turns fast_one slow_one
on_fast r m ok b z l =
    let a = b.ahead in
    let g = positive r ok in
    let slot = a.slot in
    let now : Ahead r m b.round b.step 0 = record { fits = a.fits; slot = omega arith; soon = λ _. omega arith; pause = λ o. let h = a.pause o in omega arith } in
    let t = is_fast r m b.round b.step ok now l in
    let more : (b.step + 1) * r.gap ≡ b.step * r.gap + r.gap = omega arith in
    record {
      round = b.round;
      step = b.step + 1;
      wait = r.gap - 1;
      ahead = record {
        fits = omega arith;
        slot = omega arith;
        soon = λ _. omega arith;
        pause = λ o. absurd (omega arith);
      };
      fast = ap (λ o. turns fast_one r m + fast_one o) t ∙ let f = b.fast in omega arith;
      slow = ap (λ o. turns slow_one r m + slow_one o) t ∙ let f = b.slow in omega arith;
    }

on_slow : (r : RoundsValue) (m : ℕ) → IsRounds r → (b : Stand r m) → b.wait ≡ 0 → r.fast_len ≤ b.step → Stand r (suc m)
unfolding turns fast_one slow_one
on_slow r m ok b z l =
    let a = b.ahead in
    let g = positive r ok in
    let slot = a.slot in
    let fits = a.fits in
    let last : b.step ≡ r.fast_len = omega arith in
    let same : b.step * r.gap ≡ r.fast_len * r.gap = ap (λ n. n * r.gap) last in
    let room = step_within r r.fast_len ok (omega arith) in
    let now : Ahead r m b.round b.step 0 = record { fits = a.fits; slot = omega arith; soon = λ _. omega arith; pause = λ o. let h = a.pause o in omega arith } in
    let t = is_slow r m b.round b.step ok now l in
    let more : (b.round + 1) * r.period ≡ b.round * r.period + r.period = omega arith in
    let many : (b.round + 1) * r.fast_len ≡ b.round * r.fast_len + r.fast_len = omega arith in
    record {
      round = b.round + 1;
      step = 0;
      wait = r.period - r.fast_len * r.gap - 1;
      ahead = record {
        fits = omega arith;
        slot = omega arith;
        soon = λ o. absurd (omega arith);
        pause = λ _. omega arith;
      };
      fast = ap (λ o. turns fast_one r m + fast_one o) t ∙ let f = b.fast in omega arith;
      slow = ap (λ o. turns slow_one r m + slow_one o) t ∙ let f = b.slow in omega arith;
    }

stand : (r : RoundsValue) → IsRounds r → (m : ℕ) → Stand r m
stand r ok zero = begin r ok
stand r ok (suc m) =
    let b = stand r ok m in
    elim (cases_eq b.wait 0) [
      | inl z ↦ elim (cases_lt b.step r.fast_len) [
        | inl l ↦ on_fast r m ok b z l
        | inr l ↦ on_slow r m ok b z l
      ]
      | inr n ↦ on_waits r m ok b (omega (arith, n))
    ]

-- the fast packets come in turn
pub fast_in_turn : (r : RoundsValue) (m j : ℕ) → IsRounds r → table_at r m ≡ Some (Fast j) → turns fast_one r m % r.fast_len ≡ j
fast_in_turn r m j ok e =
    let b = stand r ok m in
    let a = b.ahead in
    let slot = a.slot in
    elim (cases_eq b.wait 0) [
      | inl z ↦
          let now : Ahead r m b.round b.step 0 = record { fits = a.fits; slot = omega arith; soon = λ o. let h = a.soon o in omega arith; pause = λ o. let h = a.pause o in omega arith } in
          elim (cases_lt b.step r.fast_len) [
            | inl l ↦
                let t = is_fast r m b.round b.step ok now l in
                let same : b.step ≡ j = cc in
                ap (λ n. n % r.fast_len) b.fast ∙ mod-mul-add b.round r.fast_len b.step l ∙ same
            | inr l ↦ let t = is_slow r m b.round b.step ok now l in absurd cc
          ]
      | inr n ↦ let t = waits r m b.round b.step b.wait ok a (omega (arith, n)) in absurd cc
    ]

-- and the slow ones
pub slow_in_turn : (r : RoundsValue) (m j : ℕ) → IsRounds r → table_at r m ≡ Some (Slow j) → turns slow_one r m % r.slow_len ≡ j
slow_in_turn r m j ok e =
    let b = stand r ok m in
    let a = b.ahead in
    let slot = a.slot in
    elim (cases_eq b.wait 0) [
      | inl z ↦
          let now : Ahead r m b.round b.step 0 = record { fits = a.fits; slot = omega arith; soon = λ o. let h = a.soon o in omega arith; pause = λ o. let h = a.pause o in omega arith } in
          elim (cases_lt b.step r.fast_len) [
            | inl l ↦ let t = is_fast r m b.round b.step ok now l in absurd cc
            | inr l ↦
                let t = is_slow r m b.round b.step ok now l in
                let same : b.round % r.slow_len ≡ j = cc in
                ap (λ n. n % r.slow_len) b.slow ∙ same
          ]
      | inr n ↦ let t = waits r m b.round b.step b.wait ok a (omega (arith, n)) in absurd cc
    ]
