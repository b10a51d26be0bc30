-- How steady the PCRs of a PID are (ISO/IEC 13818-1, 2.4.2.1 and 2.7.2; ETSI TR 101 290, 2.3).
use Rattle.std.specs.Prelude.{ℕ, ◌-◌, ◌*◌, ◌/◌, nat_lt, min, max, not, Bool, ◌&&◌, List, [], ◌∷◌, Option, Some, None, if◌then◌else◌}
use Rattle.rate_meter.specs.declared.reading.Reading.{Reading}
use Rattle.rate_meter.specs.Readings.{elapsed, is_splice}
use Rattle.probe.specs.declared.pcr_step.PcrStep.{PcrStep}

-- how far two numbers are apart
abbrev pub apart : ℕ → ℕ → ℕ
apart a b = max a b - min a b

-- How far the difference of two PCRs is from the time that the bytes between them take at a rate, in whole ticks, as nanoseconds: a
-- second has 27,000,000 ticks, a byte 8 bits, and a tick 1,000 / 27 nanoseconds.
abbrev pub off_of : ℕ → PcrStep → ℕ
off_of rate s = min (apart (s.ticks * rate) (s.bytes * 216000000) / rate * 1000 / 27) 18446744073709551615

-- The step from one PCR to the next. There is none where the clock was set anew.
abbrev pub step_of : Reading → Reading → Option PcrStep
step_of before now =
    if is_splice before now then None
    else Some (record { bytes = now.position - before.position; ticks = elapsed before.pcr now.pcr })

-- the largest of the steps' differences from a rate
abbrev pub jitter_of : ℕ → List PcrStep → ℕ
jitter_of rate [] = 0
jitter_of rate (s ∷ steps) = max (off_of rate s) (jitter_of rate steps)

-- The next PCR comes late: more than a tenth of a second behind the one before, and the clock wasn't set anew.
abbrev pub is_late : Reading → Reading → Bool
is_late before now = not (is_splice before now) && nat_lt 2700000 (elapsed before.pcr now.pcr)

-- The clock jumps: back, or by more than a second, and no discontinuity indicator says so.
abbrev pub is_jump : Reading → Reading → Bool
is_jump before now = is_splice before now && not now.is_discontinuous
