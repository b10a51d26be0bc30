use Rattle.schedule.proofs.ForceLaws.{in_force}
use Rattle.schedule.proofs.laws.plans_in_force.Goals as goal

pub returns : goal.returns
returns c = in_force c.args.schedule.now c.known.ensures.schedule.slots
