use Rattle.std.proofs.Common.{◌<◌, arith}
use Rattle.schedule.proofs.ForceLaws.{belongs}
use Rattle.schedule.proofs.laws.plans_of_packets.Goals as goal

pub returns : goal.returns
returns c =
    let s = c.args.schedule.now in
    let first = (c.known.ensures.plans 0 (record { slot = 0; plan = s.first }) (omega arith)).request.rate in
    let some : 0 < s.first.request.rate = omega (arith, first.0) in
    belongs s some c.known.ensures.schedule.slots
