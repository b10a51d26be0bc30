-- The clock of a multiplex's slots, as contracts see it, and what it keeps so that no slot needs a division (profile).
use Rattle.std.specs.Prelude.{ℕ, ◌≡◌, ◌+◌, ◌*◌, ◌<◌, ◌≤◌}
use Rattle.mux.specs.declared.mux.TheConstants.{MAX_SLOTS}
use Rattle.request.specs.declared.limits.TheConstants.{MIN_RATE, MAX_RATE}

-- the rate of the multiplex, and the number of the slot that the clock stands at
pub record ClockValue : Type 0 where
  pub rate : ℕ
  pub slot : ℕ

abbrev pub clock_at : ℕ → ℕ → ClockValue
clock_at rate slot = record { rate = rate; slot = slot }

-- the clock one slot on
abbrev pub advanced : ClockValue → ClockValue
advanced c = clock_at c.rate (c.slot + 1)

-- the time of a slot and the step to the next, each as whole ticks and a rest below one; the rests count parts of a
-- tick, of which a tick has `rate`. A byte takes 216,000,000 such parts, and the time is that of the slot's byte 10.
pub record KeepsTime (rate slot time rest step step_rest : ℕ) : Type 0 where
  pub rate_from : MIN_RATE ≤ rate
  pub rate_within : rate ≤ MAX_RATE
  pub slot_within : slot ≤ MAX_SLOTS
  pub time_is : time * rate + rest ≡ (188 * slot + 10) * 216000000
  pub rest_within : rest < rate
  pub step_is : step * rate + step_rest ≡ 188 * 216000000
  pub step_rest_within : step_rest < rate
