-- How far a measured rate is from a stated one, and parts of a rate (profile).
use Rattle.std.specs.Prelude.{ℕ, ◌-◌, ◌*◌, nat_lt, ◌==◌, Option, Some, None, if◌then◌else◌}
use Rattle.rate_meter.specs.declared.deviation.Deviation.{Deviation}
use Rattle.rate_meter.specs.declared.deviation.Deviation.TheVariants.{Above, Below}
use Rattle.rate_meter.specs.Line.{rounded, within_64}

-- of a number the part that so many of so many are
abbrev pub part_of : ℕ → ℕ → ℕ → ℕ
part_of number part whole = within_64 (rounded (number * part) whole)

-- in parts per million of the stated rate
abbrev pub deviation_of : ℕ → ℕ → Deviation
deviation_of measured stated =
    if nat_lt measured stated then Below (part_of 1000000 (stated - measured) stated)
    else Above (part_of 1000000 (measured - stated) stated)

-- how many parts per million it is
abbrev pub parts_of : Deviation → ℕ
parts_of (Above parts) = parts
parts_of (Below parts) = parts

-- told where it is above 50 parts per million; of a stated rate of 0 nothing is
abbrev pub off_by_of : ℕ → ℕ → Option Deviation
off_by_of measured stated =
    if stated == 0 then None
    else if nat_lt 50 (parts_of (deviation_of measured stated)) then Some (deviation_of measured stated)
    else None
