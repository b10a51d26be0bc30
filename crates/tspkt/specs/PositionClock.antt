-- The clock of a stream's positions, as contracts see it, and what it keeps so that no packet needs a division (profile).
use Rattle.std.specs.Prelude.{ℕ, ◌≡◌, ◌+◌, ◌*◌, ◌<◌, ◌≤◌}
use Rattle.tspkt.specs.declared.framer.TheConstants.{MAX_LIMIT}
use Rattle.tspkt.specs.declared.position_clock.TheConstants.{LOWEST_RATE, HIGHEST_RATE}

-- the rate of the stream, and the position that the clock stands at
pub record PositionValue : Type 0 where
  pub rate : ℕ
  pub position : ℕ

-- The time of byte 10 behind the position and the step to the next packet, each as whole ticks and a rest below one; the rests
-- count parts of a tick, of which a tick has `rate`. A byte takes 216,000,000 such parts.
pub record KeepsPosition (rate position time rest stride step step_rest : ℕ) : Type 0 where
  pub lowest : LOWEST_RATE ≤ rate
  pub highest : rate ≤ HIGHEST_RATE
  pub position_within : position ≤ MAX_LIMIT
  pub time_is : time * rate + rest ≡ (position + 10) * 216000000
  pub rest_within : rest < rate
  pub stride_within : stride ≤ 204
  pub step_is : step * rate + step_rest ≡ stride * 216000000
  pub step_rest_within : step_rest < rate
