-- How steady a rate is (profile): the lowest and the highest rate of the seconds of a line.
use Rattle.std.specs.Prelude.{ℕ, ◌-◌, ◌*◌, nat_lt, Bool, min, max, List, [], ◌∷◌, if◌then◌else◌}
use Rattle.rate_meter.specs.declared.point.Point.{Point}
use Rattle.rate_meter.specs.declared.pace.Pace.{Pace}
use Rattle.rate_meter.specs.Line.{bits_a_second}

abbrev pub origin : Point
origin = record { bytes = 0; ticks = 0 }

-- no second is over
abbrev pub first_pace : Pace
first_pace = record { start = origin; slowest = 18446744073709551615; fastest = 0 }

-- the rate from one point to a later one
abbrev pub rate_between : Point → Point → ℕ
rate_between start p = bits_a_second (p.bytes - start.bytes) (p.ticks - start.ticks)

-- A second is over at the first point that is 27,000,000 ticks or more behind its start, and the next one starts there.
abbrev pub paced : Point → Pace → Pace
paced p pace =
    if nat_lt (p.ticks - pace.start.ticks) 27000000 then pace
    else record { start = p; slowest = min pace.slowest (rate_between pace.start p); fastest = max pace.fastest (rate_between pace.start p) }

-- that of a line, whose newest point comes first
abbrev pub pace_of : List Point → Pace
pace_of [] = first_pace
pace_of (p ∷ points) = paced p (pace_of points)

-- A rate is variable where its fastest second is more than 1 per cent above its slowest.
abbrev pub is_variable : Pace → Bool
is_variable pace = nat_lt (101 * pace.slowest) (100 * pace.fastest)
