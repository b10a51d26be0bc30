-- The shortest and the longest period.
use Rattle.std.proofs.Common.{arith, ◌≡◌, ℕ, ◌*◌, ◌/◌, ◌<◌, ◌≤◌, nat_lt, min, Bool, true, false, ◌||◌, if◌then◌else◌, List, Some, None, refl, sym, ap, ◌∙◌}
use Rattle.std.proofs.lemmas.Bool.Decides.{nat_tests}
use Rattle.std.proofs.lemmas.Bool.{lt-ltb, ltb-true, ltb-false}
use Rattle.std.proofs.Math.Nat.{div-lt_iff_lt-mul, mul_comm}
use Rattle.rounds.specs.Rounds.{fast_limit_of, sdt_limit_of, rounds_fault_of}
use Rattle.rounds.specs.declared.rounds_fault.RoundsFault.TheVariants as Rounds
use Rattle.request.specs.declared.plan_fault.PlanFault.TheVariants.{RoundTooLong, PeriodTooLong}
use Rattle.request.specs.Request.{RequestValue}
use Rattle.selection.specs.Chosen.{ChosenValue}
use Rattle.output_tables.specs.Output.{slow_count}
use Rattle.plan.specs.Build.{output_rounds, fault_of_rounds}
use Rattle.plan_causes.specs.Causes.{shortest_period, longest_period}

pub not_below : (a b : ℕ) → b ≤ a → nat_lt a b ≡ false
not_below a b h = grind (arith, nat_tests)

or_true : (a b : Bool) → b ≡ true → (a || b) ≡ true
or_true true b h = refl
or_true false b h = h

above_sdt : (fast sdt slow period : ℕ) → 1 ≤ slow → sdt / slow < period → (nat_lt fast period || nat_lt sdt (slow * period)) ≡ true
above_sdt fast sdt slow period some h =
    let above = (div-lt_iff_lt-mul {k = slow} {x = sdt} {y = period} (omega arith)).0 h in
    let turned = mul_comm slow period in
    or_true (nat_lt fast period) (nat_lt sdt (slow * period)) (lt-ltb sdt (slow * period) (rw turned above))

-- of the two limits the lesser counts
not_above : (a b : ℕ) → (a < b → ⊥) → nat_lt a b ≡ false
not_above a b h = by (nat_lt a b) refl
  where
    by : (t : Bool) → nat_lt a b ≡ t → nat_lt a b ≡ false
    by true e = absurd (h (ltb-true a b e))
    by false e = e

pub too_seldom : (fast sdt slow period : ℕ) → 1 ≤ slow → min fast (sdt / slow) < period → (nat_lt fast period || nat_lt sdt (slow * period)) ≡ true
too_seldom fast sdt slow period some h = by (nat_lt fast period) refl
  where
    by : (t : Bool) → nat_lt fast period ≡ t → (nat_lt fast period || nat_lt sdt (slow * period)) ≡ true
    by true e = ap (λ b. b || nat_lt sdt (slow * period)) e
    by false e =
        let within_fast : period ≤ fast = ltb-false fast period e in
        let above : sdt / slow < period = omega arith in
        above_sdt fast sdt slow period some above

pub often_enough : (fast sdt slow period : ℕ) → 1 ≤ slow → period ≤ min fast (sdt / slow) → (nat_lt fast period || nat_lt sdt (slow * period)) ≡ false
often_enough fast sdt slow period some h =
    let turned = mul_comm slow period in
    let below : sdt < slow * period → ⊥ = λ above.
    let more : sdt / slow < period = (div-lt_iff_lt-mul {k = slow} {x = sdt} {y = period} (omega arith)).1 (rw (sym turned) above) in
    omega arith in
    ap (λ b. b || nat_lt sdt (slow * period)) (not_below fast period (omega arith)) ∙ not_above sdt (slow * period) below

-- the faults of the rounds of the tables, by the shortest and the longest period
pub round_told : (r : RequestValue) (chosen : List ChosenValue) → r.period < shortest_period r chosen → fault_of_rounds (rounds_fault_of (output_rounds r chosen)) ≡ Some RoundTooLong
unfolding rounds_fault_of
round_told r chosen h =
    let seldom = nat_lt (fast_limit_of r.rate) r.period || nat_lt (sdt_limit_of r.rate) (slow_count r chosen * r.period) in
    ap (λ b. fault_of_rounds (if b then Some Rounds.RoundTooLong else if seldom then Some Rounds.PeriodTooLong else None)) (lt-ltb r.period (shortest_period r chosen) h)

pub period_told : (r : RequestValue) (chosen : List ChosenValue) → 1 ≤ slow_count r chosen → shortest_period r chosen ≤ r.period → longest_period r chosen < r.period
    → fault_of_rounds (rounds_fault_of (output_rounds r chosen)) ≡ Some PeriodTooLong
unfolding rounds_fault_of
period_told r chosen some round h =
    let seldom = nat_lt (fast_limit_of r.rate) r.period || nat_lt (sdt_limit_of r.rate) (slow_count r chosen * r.period) in
    ap (λ b. fault_of_rounds (if b then Some Rounds.RoundTooLong else if seldom then Some Rounds.PeriodTooLong else None)) (not_below r.period (shortest_period r chosen) round)
    ∙ ap (λ b. fault_of_rounds (if b then Some Rounds.PeriodTooLong else None)) (too_seldom (fast_limit_of r.rate) (sdt_limit_of r.rate) (slow_count r chosen) r.period some h)

pub none_told : (r : RequestValue) (chosen : List ChosenValue) → 1 ≤ slow_count r chosen → shortest_period r chosen ≤ r.period → r.period ≤ longest_period r chosen
    → fault_of_rounds (rounds_fault_of (output_rounds r chosen)) ≡ None
unfolding rounds_fault_of
none_told r chosen some round h =
    let seldom = nat_lt (fast_limit_of r.rate) r.period || nat_lt (sdt_limit_of r.rate) (slow_count r chosen * r.period) in
    ap (λ b. fault_of_rounds (if b then Some Rounds.RoundTooLong else if seldom then Some Rounds.PeriodTooLong else None)) (not_below r.period (shortest_period r chosen) round)
    ∙ ap (λ b. fault_of_rounds (if b then Some Rounds.PeriodTooLong else None)) (often_enough (fast_limit_of r.rate) (sdt_limit_of r.rate) (slow_count r chosen) r.period some h)
