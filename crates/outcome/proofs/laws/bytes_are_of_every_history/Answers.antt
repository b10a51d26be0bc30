use Rattle.outcome.proofs.OutputLaws.{of_every_history}
use Rattle.outcome.proofs.laws.bytes_are_of_every_history.Goals as goal

pub returns : goal.returns
returns c = of_every_history
