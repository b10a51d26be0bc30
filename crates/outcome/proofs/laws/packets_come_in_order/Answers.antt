use Rattle.outcome.proofs.OrderLaws.{come_in_order}
use Rattle.outcome.proofs.laws.packets_come_in_order.Goals as goal

pub returns : goal.returns
returns c = come_in_order
