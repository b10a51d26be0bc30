-- How long the packets of a stream wait (profile). A millisecond has 27,000 ticks of 27 MHz.
use Rattle.std.specs.Prelude.{ℕ, nat_lt, if◌then◌else◌, Option, Some, None}
use Rattle.std.specs.Int.{div_ceil}

-- a delay of more than a second, in milliseconds, rounded up
abbrev pub late_by_of : ℕ → Option ℕ
late_by_of delay = if nat_lt 27000000 delay then Some (div_ceil delay 27000) else None
