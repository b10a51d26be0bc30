-- The times of slots are small numbers.
use Rattle.std.proofs.Common.{ℕ, ◌+◌, ◌*◌, ◌^◌, ◌<◌, ◌≤◌, arith}
use Rattle.std.proofs.Math.Nat.{mul-le-mul_left}
use Rattle.mux.specs.SlotClock.{KeepsTime}

-- the time of a slot has a whole step left, and one tick more
pub step_fits : {rate slot time rest step step_rest : ℕ} → KeepsTime rate slot time rest step step_rest → time + step + 1 < 2 ^ 64
step_fits {rate} {slot} {time} {rest} {step} {step_rest} kept =
    let from = kept.rate_from in
    let long : time * 500000 ≤ time * rate = mul-le-mul_left time from in
    let short : step * 500000 ≤ step * rate = mul-le-mul_left step from in
    let time_is = kept.time_is in
    let step_is = kept.step_is in
    let within = kept.slot_within in
    omega arith
