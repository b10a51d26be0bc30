-- When the bytes of a stream come (profile). A byte has 8 bits, a second 1,000 milliseconds, and a millisecond 27,000 ticks of 27 MHz.
use Rattle.std.specs.Prelude.{ℕ, ◌+◌, ◌*◌, ◌/◌, min}

-- in milliseconds: when the first byte comes, in ticks, and so many bytes behind it at so many bits a second
abbrev pub reached_of : ℕ → ℕ → ℕ → ℕ
reached_of offset rate bytes = min (offset / 27000 + bytes * 8000 / rate) 18446744073709551615
