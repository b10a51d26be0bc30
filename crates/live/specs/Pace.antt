-- How fast a run goes, and how long it still takes (profile). Times are in milliseconds, and rounded down.
use Rattle.std.specs.Prelude.{ℕ, ◌*◌, ◌-◌, ◌/◌}

-- in tenths: how many times as fast as it is shown a multiplex is made, which is so far after so long
abbrev pub speed_of : ℕ → ℕ → ℕ
speed_of time elapsed = time * 10 / elapsed

-- how long it takes to its end at the speed that it had
abbrev pub time_left_of : ℕ → ℕ → ℕ → ℕ
time_left_of time end elapsed = elapsed * (end - time) / time
