use Rattle.std.proofs.Common.{arith}
use Rattle.schedule.proofs.AllStreamsLaws.{are_streams}
use Rattle.schedule.proofs.laws.streams_of_plans.Goals as goal

pub returns : goal.returns
returns c =
    let s = c.args.schedule.now in
    are_streams s c.known.ensures.schedule.pids
    (λ number within. (c.known.ensures.plans number (record { slot = 0; plan = s.first }) (omega (arith, within))).request)
