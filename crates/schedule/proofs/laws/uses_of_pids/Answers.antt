use Rattle.std.proofs.Common.{arith}
use Rattle.schedule.proofs.StreamLaws.{have_one_use}
use Rattle.schedule.proofs.laws.uses_of_pids.Goals as goal

pub returns : goal.returns
returns c =
    let s = c.args.schedule.now in
    have_one_use s c.known.ensures.schedule.pids
    (λ number within. (c.known.ensures.plans number (record { slot = 0; plan = s.first }) (omega (arith, within))).request)
