-- The line of a clock: its readings, laid end to end without its splices (profile; PCRs are those of ISO/IEC 13818-1, 2.4.3.5, and
-- the discontinuity indicator is that of 2.4.3.4). Readings and points are newest first.
use Rattle.std.specs.Prelude.{ℕ, ◌+◌, ◌-◌, ◌%◌, nat_lt, Bool, ◌||◌, List, [], ◌∷◌, ◌++◌, Option, Some, None, slice_get, if◌then◌else◌}
use Rattle.std.specs.Option.{option_to_list}
use Rattle.tspkt.specs.Packet.{pcr_modulus}
use Rattle.rate_meter.specs.declared.point.Point.{Point}
use Rattle.rate_meter.specs.declared.reading.Reading.{Reading}
use Rattle.rate_meter.specs.Line.{has_room}
use Rattle.rate_meter.specs.Pace.{origin}

-- how many ticks it is from one PCR to a later one, of which the count may have wrapped
abbrev pub elapsed : ℕ → ℕ → ℕ
elapsed before now = (now % pcr_modulus + pcr_modulus - before % pcr_modulus) % pcr_modulus

-- The clock was set anew between two neighbours: the later one says so, or it is more than a second behind or in front of the other.
abbrev pub is_splice : Reading → Reading → Bool
is_splice before now = now.is_discontinuous || nat_lt 27000000 (elapsed before.pcr now.pcr)

-- the newest of points
abbrev pub newest : List Point → Point
newest [] = origin
newest (p ∷ points) = p

-- as far behind a point as one reading is behind another
abbrev pub point_behind : Point → Reading → Reading → Point
point_behind p before now = record { bytes = p.bytes + (now.position - before.position); ticks = p.ticks + elapsed before.pcr now.pcr }

-- a point, if there is room for it
abbrev pub if_room : List Point → Point → Option Point
if_room points p = if has_room points p then Some p else None

-- The point of a reading. The first one has no bytes and no ticks. A reading behind a splice has none: the next one goes on from
-- the newest point. Nor has one for which there is no room.
abbrev pub point_of : Option Reading → Reading → List Point → Option Point
point_of None now points = if_room points origin
point_of (Some before) now points = if is_splice before now then None else if_room points (point_behind (newest points) before now)

-- the line of all readings
abbrev pub points_of : List Reading → List Point
points_of [] = []
points_of (now ∷ earlier) = option_to_list (point_of (slice_get earlier 0) now (points_of earlier)) ++ points_of earlier
