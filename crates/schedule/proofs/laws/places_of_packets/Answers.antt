use Rattle.std.proofs.Common.{arith}
use Rattle.schedule.proofs.AllStreamsLaws.{are_streams}
use Rattle.schedule.proofs.ForceLaws.{number_within}
use Rattle.schedule.proofs.FindLaws.{are_places}
use Rattle.schedule.proofs.laws.places_of_packets.Goals as goal

pub returns : goal.returns
returns c =
    let s = c.args.schedule.now in
    are_places s
    (are_streams s c.known.ensures.schedule.pids
    (λ number within. (c.known.ensures.plans number (record { slot = 0; plan = s.first }) (omega (arith, within))).request))
    (number_within s)
