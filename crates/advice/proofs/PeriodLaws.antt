-- The lawful periods, and how long they take.
use Rattle.std.proofs.Common.{arith, ◌≡◌, ℕ, ◌+◌, ◌*◌, ◌/◌, ◌<◌, ◌≤◌, nat_lt, min, Bool, true, false, ◌||◌, if◌then◌else◌, Option, Some, None, refl, sym}
use Rattle.std.specs.Int.{div_ceil}
use Rattle.std.proofs.lemmas.Grind.{div_ceil_times}
use Rattle.std.proofs.lemmas.Bool.{ltb-false, le-ltb}
use Rattle.std.proofs.Math.Nat.{le-div_iff_mul-le, mul_comm, mul-le-mul_left, lt_of_mul-lt-mul_right}
use Rattle.rounds.specs.Rounds.{RoundsValue, IsRounds, fast_limit_of, sdt_limit_of, rounds_fault_of}
use Rattle.rounds.specs.declared.rounds_fault.RoundsFault.{RoundsFault}
use Rattle.rounds.specs.declared.rounds_fault.RoundsFault.TheVariants.{RoundTooLong, PeriodTooLong}
use Rattle.rounds.proofs.RoundLaws.{positive}
use Rattle.advice.specs.Rhythm.{IsLawfulPeriod, milliseconds_of}

-- a quotient that is rounded up is no more than what times the divisor is enough
pub within_limit : (n d limit : ℕ) → 0 < d → n ≤ limit * d → div_ceil n d ≤ limit
within_limit n d limit some h =
    let twice : div_ceil n d * d < n + d = (div_ceil_times n d some).1 in
    let next : (limit + 1) * d ≡ limit * d + d = grind arith in
    let below : div_ceil n d * d < (limit + 1) * d = rw next (omega arith) in
    let least : div_ceil n d < limit + 1 = lt_of_mul-lt-mul_right d below in
    omega arith

-- slots that are so many milliseconds at most
pub milliseconds_within : (rate slots limit : ℕ) → 0 < rate → slots * 1504000 ≤ limit * rate → milliseconds_of rate slots ≤ limit
milliseconds_within rate slots limit some h = within_limit (slots * 1504000) rate limit some h

rate_above : (r : RoundsValue) → IsRounds r → 0 < r.rate
rate_above r ok =
    let p = (positive r ok).1 in
    let l = ok.period in
    omega arith

pub pat_within : (r : RoundsValue) → IsRounds r → (rate slots time : ℕ) → rate ≡ r.rate → slots ≡ r.period → time ≡ milliseconds_of rate slots → time ≤ 500
pat_within r ok rate slots time a b c =
    let l = ok.period in
    let h : r.period * 1504000 ≤ 500 * r.rate = omega arith in
    let within = milliseconds_within r.rate r.period 500 (rate_above r ok) h in
    rw (c, a, b) within

pub sdt_within : (r : RoundsValue) → IsRounds r → (rate slots time : ℕ) → rate ≡ r.rate → slots ≡ r.slow_len * r.period → time ≡ milliseconds_of rate slots → time ≤ 2000
sdt_within r ok rate slots time a b c =
    let l = ok.rotation in
    let h : (r.slow_len * r.period) * 1504000 ≤ 2000 * r.rate = omega arith in
    let within = milliseconds_within r.rate (r.slow_len * r.period) 2000 (rate_above r ok) h in
    rw (c, a, b) within

abbrev told : Bool → Bool → Option RoundsFault
told long seldom = if long then Some RoundTooLong else if seldom then Some PeriodTooLong else None

told_none : (long fast sdt : Bool) → long ≡ false → fast ≡ false → sdt ≡ false → told long (fast || sdt) ≡ None
told_none false false false a b c = refl
told_none true fast sdt a b c = absurd (cc)
told_none false true sdt a b c = absurd (cc)
told_none false false true a b c = absurd (cc)

none_told : (long fast sdt : Bool) → told long (fast || sdt) ≡ None → (long ≡ false) × (fast ≡ false) × (sdt ≡ false)
none_told false false false h = (refl, refl, refl)
none_told true fast sdt h = absurd (cc)
none_told false true sdt h = absurd (cc)
none_told false false true h = absurd (cc)

-- a period is lawful that is within all three limits, and no other
pub lawful : (r : RoundsValue) (period : ℕ) → (r.fast_len + 1) * r.gap ≤ period → period ≤ fast_limit_of r.rate → r.slow_len * period ≤ sdt_limit_of r.rate → IsLawfulPeriod r period
unfolding rounds_fault_of
lawful r period a b c =
    told_none (nat_lt period ((r.fast_len + 1) * r.gap)) (nat_lt (fast_limit_of r.rate) period) (nat_lt (sdt_limit_of r.rate) (r.slow_len * period))
    (le-ltb _ _ a) (le-ltb _ _ b) (le-ltb _ _ c)

pub record IsWithin (r : RoundsValue) (period : ℕ) : Type 0 where
  pub round : (r.fast_len + 1) * r.gap ≤ period
  pub fast : period ≤ fast_limit_of r.rate
  pub sdt : r.slow_len * period ≤ sdt_limit_of r.rate

pub is_within : (r : RoundsValue) (period : ℕ) → IsLawfulPeriod r period → IsWithin r period
unfolding rounds_fault_of
is_within r period h =
    let all = none_told (nat_lt period ((r.fast_len + 1) * r.gap)) (nat_lt (fast_limit_of r.rate) period) (nat_lt (sdt_limit_of r.rate) (r.slow_len * period)) h in
    record { round = ltb-false _ _ all.0; fast = ltb-false _ _ all.1; sdt = ltb-false _ _ all.2 }

-- a round takes its period at least
pub shortest_lawful : (r : RoundsValue) → IsRounds r → (shortest : ℕ) → shortest ≡ (r.fast_len + 1) * r.gap → IsLawfulPeriod r shortest
shortest_lawful r ok shortest e =
    let shorter : r.slow_len * ((r.fast_len + 1) * r.gap) ≤ r.slow_len * r.period = mul-le-mul_left r.slow_len ok.round in
    let a = ok.round in
    let b = ok.period in
    let c = ok.rotation in
    rw e (lawful r ((r.fast_len + 1) * r.gap) (omega arith) (omega arith) (omega arith))

pub shortest_least : (r : RoundsValue) (shortest : ℕ) → shortest ≡ (r.fast_len + 1) * r.gap → (period : ℕ) → IsLawfulPeriod r period → shortest ≤ period
shortest_least r shortest e period h = let within = (is_within r period h).round in omega arith

-- the lesser of the two limits
abbrev pub longest_of : RoundsValue → ℕ
longest_of r = min (fast_limit_of r.rate) (sdt_limit_of r.rate / r.slow_len)

slow_times : (slow sdt period : ℕ) → 0 < slow → (period ≤ sdt / slow → slow * period ≤ sdt) × (slow * period ≤ sdt → period ≤ sdt / slow)
slow_times slow sdt period some =
    let turned = mul_comm slow period in
    let both = le-div_iff_mul-le {k = slow} {x = period} {y = sdt} some in
    ((λ h. rw turned (both.0 h)), (λ h. both.1 (rw (sym turned) h)))

pub longest_greatest : (r : RoundsValue) → IsRounds r → (longest : ℕ) → longest ≡ longest_of r → (period : ℕ) → IsLawfulPeriod r period → period ≤ longest
longest_greatest r ok longest e period h =
    let within = is_within r period h in
    let a = within.fast in
    let b : period ≤ sdt_limit_of r.rate / r.slow_len = (slow_times r.slow_len (sdt_limit_of r.rate) period ok.slow).1 within.sdt in
    omega arith

pub longest_lawful : (r : RoundsValue) → IsRounds r → (longest : ℕ) → longest ≡ longest_of r → IsLawfulPeriod r longest
longest_lawful r ok longest e =
    let b : r.period ≤ sdt_limit_of r.rate / r.slow_len = (slow_times r.slow_len (sdt_limit_of r.rate) r.period ok.slow).1 ok.rotation in
    let a = ok.period in
    let round = ok.round in
    rw e (lawful r (longest_of r) (omega arith) (omega arith)
    ((slow_times r.slow_len (sdt_limit_of r.rate) (longest_of r) ok.slow).0 (omega arith)))
