-- What the kept counts say of a slot, and how they go on.
use Rattle.std.proofs.Common.{ℕ, ◌+◌, ◌-◌, ◌*◌, ◌/◌, ◌%◌, ◌<◌, ◌≤◌, ◌≡◌, Some, None, zero, suc, ap, ◌∙◌, sym, arith, inl, inr}
use Rattle.std.proofs.Math.Nat.{mul-le-mul_right}
use Rattle.std.proofs.lemmas.Nat.{div-add-mod', mod_below, mod-mul-add, div-mul-add}
use Rattle.std.proofs.lemmas.Bool.{cases_eq}
use Rattle.rounds.specs.declared.table_place.TablePlace.TheVariants.{Fast, Slow}
use Rattle.rounds.specs.Rounds.{RoundsValue, table_at}
use Rattle.rounds.specs.Turn.{IsTurn}
use Rattle.rounds.proofs.RoundLaws.{step_within, positive, due_fast, due_slow, due_between, due_after}

-- a slot by its round and its step
slot_by : (r : RoundsValue) (m step : ℕ) → m % r.period ≡ step * r.gap → m / r.period * r.period + step * r.gap ≡ m
slot_by r m step e = let w = div-add-mod' m r.period in omega arith

pub turn_fast : (r : RoundsValue) (pause slot wait step rotation : ℕ) → IsTurn r pause slot wait step rotation → wait ≡ 0 → step < r.fast_len
    → table_at r slot ≡ Some (Fast step)
turn_fast r pause slot wait step rotation t w l =
    let e : slot + wait ≡ slot = omega arith in
    let due : slot % r.period ≡ step * r.gap = ap (λ z. z % r.period) (sym e) ∙ t.due in
    ap (table_at r) (sym (slot_by r slot step due)) ∙ due_fast r (slot / r.period) step t.rounds l

pub turn_slow : (r : RoundsValue) (pause slot wait step rotation : ℕ) → IsTurn r pause slot wait step rotation → wait ≡ 0 → r.fast_len ≤ step
    → table_at r slot ≡ Some (Slow rotation)
turn_slow r pause slot wait step rotation t w l =
    let e : slot + wait ≡ slot = omega arith in
    let due : slot % r.period ≡ step * r.gap = ap (λ z. z % r.period) (sym e) ∙ t.due in
    let fits = t.step_fits in
    ap (table_at r) (sym (slot_by r slot step due)) ∙ due_slow r (slot / r.period) step t.rounds (omega arith)
    ∙ ap (λ z. Some (Slow (z / r.period % r.slow_len))) (sym e) ∙ ap (λ z. Some (Slow z)) (sym t.rotation_is)

-- a round that isn't the first has one before it
before : (k p : ℕ) → 0 < k * p → (k - 1) * p + p ≡ k * p
before zero p l = absurd (omega arith)
before (suc k) p l = let e : suc k - 1 ≡ k = omega arith in rw e (omega arith)

pub turn_none : (r : RoundsValue) (pause slot wait step rotation : ℕ) → IsTurn r pause slot wait step rotation → 0 < wait
    → table_at r slot ≡ None
turn_none r pause slot wait step rotation t w =
    let ok = t.rounds in
    let due = slot_by r (slot + wait) step t.due in
    let k = (slot + wait) / r.period in
    let fits = t.step_fits in
    elim (cases_eq step 0) [
      | inl z ↦
          let soon = t.within_pause z in
          let pause_is = t.pause_is in
          let none : step * r.gap ≡ 0 = ap (λ s. s * r.gap) z ∙ omega arith in
          let back = before k r.period (omega arith) in
          let e : (k - 1) * r.period + (r.period - wait) ≡ slot = omega arith in
          ap (table_at r) (sym e) ∙ due_after r (k - 1) (r.period - wait) ok (omega arith) (omega arith)
      | inr z ↦
          let one : 1 ≤ step = omega (arith, z) in
          let soon = t.within_gap one in
          let back = before step r.gap (let m : 1 * r.gap ≤ step * r.gap = mul-le-mul_right r.gap one in omega arith) in
          let e : k * r.period + ((step - 1) * r.gap + (r.gap - wait)) ≡ slot = omega arith in
          ap (table_at r) (sym e) ∙ due_between r k (step - 1) (r.gap - wait) ok (omega arith) (omega arith) (omega arith)
    ]

-- the next step of a round
pub turn_steps : (r : RoundsValue) (pause slot wait step rotation : ℕ) → IsTurn r pause slot wait step rotation → wait ≡ 0 → step < r.fast_len
    → IsTurn r pause (slot + 1) (r.gap - 1) (step + 1) rotation
turn_steps r pause slot wait step rotation t w l =
    let ok = t.rounds in
    let p = positive r ok in
    let k = (slot + wait) / r.period in
    let fits = step_within r (step + 1) ok (omega arith) in
    let due = slot_by r (slot + wait) step t.due in
    let more : (step + 1) * r.gap ≡ step * r.gap + r.gap = omega arith in
    let e : k * r.period + (step + 1) * r.gap ≡ slot + 1 + (r.gap - 1) = omega arith in
    let q : (slot + 1 + (r.gap - 1)) / r.period ≡ k = ap (λ z. z / r.period) (sym e) ∙ div-mul-add k r.period ((step + 1) * r.gap) (omega arith) in
    let m : (slot + 1 + (r.gap - 1)) % r.period ≡ (step + 1) * r.gap = ap (λ z. z % r.period) (sym e) ∙ mod-mul-add k r.period ((step + 1) * r.gap) (omega arith) in
    record {
      rounds = ok;
      pause_is = t.pause_is;
      step_fits = omega arith;
      due = m;
      rotation_is = t.rotation_is ∙ ap (λ z. z % r.slow_len) (sym q);
      within_gap = λ _. omega arith;
      within_pause = λ z. absurd (omega arith);
    }

-- one more round, and whose turn it is in it
turn_on : (k n : ℕ) → 0 < n → k % n + 1 < n → (k + 1) % n ≡ k % n + 1
turn_on k n p l =
    let w = div-add-mod' k n in
    let e : k / n * n + (k % n + 1) ≡ k + 1 = omega arith in
    ap (λ z. z % n) (sym e) ∙ mod-mul-add (k / n) n (k % n + 1) l

turn_over : (k n : ℕ) → 0 < n → k % n + 1 ≡ n → (k + 1) % n ≡ 0
turn_over k n p l =
    let w = div-add-mod' k n in
    let m : (k / n + 1) * n ≡ k / n * n + n = omega arith in
    let e : (k / n + 1) * n + 0 ≡ k + 1 = omega arith in
    ap (λ z. z % n) (sym e) ∙ mod-mul-add (k / n + 1) n 0 p

-- a new round, in which a packet has its turn
turn_renews : (r : RoundsValue) (pause slot wait step rotation next : ℕ) → IsTurn r pause slot wait step rotation → wait ≡ 0 → r.fast_len ≤ step
    → next ≡ ((slot + wait) / r.period + 1) % r.slow_len → IsTurn r pause (slot + 1) (pause - 1) 0 next
turn_renews r pause slot wait step rotation next t w l n =
    let ok = t.rounds in
    let p = positive r ok in
    let k = (slot + wait) / r.period in
    let last : step ≡ r.fast_len = let fits = t.step_fits in omega arith in
    let same : step * r.gap ≡ r.fast_len * r.gap = ap (λ z. z * r.gap) last in
    let fits = step_within r r.fast_len ok (omega arith) in
    let due = slot_by r (slot + wait) step t.due in
    let pause_is = t.pause_is in
    let more : (k + 1) * r.period ≡ k * r.period + r.period = omega arith in
    let e : (k + 1) * r.period + 0 ≡ slot + 1 + (pause - 1) = omega arith in
    let q : (slot + 1 + (pause - 1)) / r.period ≡ k + 1 = ap (λ z. z / r.period) (sym e) ∙ div-mul-add (k + 1) r.period 0 (omega arith) in
    let m : (slot + 1 + (pause - 1)) % r.period ≡ 0 = ap (λ z. z % r.period) (sym e) ∙ mod-mul-add (k + 1) r.period 0 (omega arith) in
    record {
      rounds = ok;
      pause_is = pause_is;
      step_fits = omega arith;
      due = m ∙ omega arith;
      rotation_is = n ∙ ap (λ z. z % r.slow_len) (sym q);
      within_gap = λ z. absurd (omega arith);
      within_pause = λ _. omega arith;
    }

pub turn_goes_on : (r : RoundsValue) (pause slot wait step rotation : ℕ) → IsTurn r pause slot wait step rotation → wait ≡ 0 → r.fast_len ≤ step
    → (rotation + 1 ≡ r.slow_len → ⊥) → IsTurn r pause (slot + 1) (pause - 1) 0 (rotation + 1)
turn_goes_on r pause slot wait step rotation t w l n =
    let p = positive r t.rounds in
    let k = (slot + wait) / r.period in
    let is = t.rotation_is in
    let below = mod_below k r.slow_len p.2 in
    turn_renews r pause slot wait step rotation (rotation + 1) t w l
    (ap (λ z. z + 1) is ∙ sym (turn_on k r.slow_len p.2 (omega (arith, n))))

pub turn_starts_over : (r : RoundsValue) (pause slot wait step rotation : ℕ) → IsTurn r pause slot wait step rotation → wait ≡ 0 → r.fast_len ≤ step
    → rotation + 1 ≡ r.slow_len → IsTurn r pause (slot + 1) (pause - 1) 0 0
turn_starts_over r pause slot wait step rotation t w l n =
    let p = positive r t.rounds in
    let k = (slot + wait) / r.period in
    let is = t.rotation_is in
    turn_renews r pause slot wait step rotation 0 t w l (sym (turn_over k r.slow_len p.2 (omega arith)))
