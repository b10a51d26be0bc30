use Rattle.schedule.proofs.PlaceLaws.{packet_in_one}
use Rattle.schedule.proofs.laws.places_of_one_plan.Goals as goal

pub returns : goal.returns
returns c = packet_in_one c.args.plan.now c.known.ensures.request
