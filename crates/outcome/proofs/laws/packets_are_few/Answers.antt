use Rattle.outcome.proofs.OrderLaws.{are_few}
use Rattle.outcome.proofs.laws.packets_are_few.Goals as goal

pub returns : goal.returns
returns c = are_few
