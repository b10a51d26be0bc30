-- Times of bytes in a stream of constant rate, in ticks of 27 MHz (profile; the clock is that of
-- ISO/IEC 13818-1, 2.4.2.1).
use Rattle.std.specs.Prelude.{ℕ, ◌*◌, ◌/◌}

-- when the byte at a position comes, of a stream of so many bits a second: 27,000,000 * 8 ticks a bit, rounded down
abbrev pub time_of : ℕ → ℕ → ℕ
time_of position rate = position * 216000000 / rate
