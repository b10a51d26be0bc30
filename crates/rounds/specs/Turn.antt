-- A walk along the slots, one after another (profile).
use Rattle.std.specs.Prelude.{◌≡◌, ℕ, ◌+◌, ◌*◌, ◌/◌, ◌%◌, ◌<◌, ◌≤◌}
use Rattle.rounds.specs.Rounds.{RoundsValue, IsRounds}

-- the rounds, and the slot that comes next
pub record TurnValue : Type 0 where
  pub rounds : RoundsValue
  pub slot : ℕ

-- For the code: what is kept beside them. `wait` slots on is the next slot that a table may have: step `step` of its
-- round, in which the slow packet `rotation` has its turn. `pause` is from that slow packet to the next round.
pub record IsTurn (r : RoundsValue) (pause slot wait step rotation : ℕ) : Type 0 where
  pub rounds : IsRounds r
  pub pause_is : pause + r.fast_len * r.gap ≡ r.period
  pub step_fits : step ≤ r.fast_len
  pub due : (slot + wait) % r.period ≡ step * r.gap
  pub rotation_is : rotation ≡ (slot + wait) / r.period % r.slow_len
  pub within_gap : 1 ≤ step → wait < r.gap
  pub within_pause : step ≡ 0 → wait < pause
