use Rattle.outcome.proofs.OutputLaws.{equal_bytes}
use Rattle.outcome.proofs.laws.equal_inputs_give_equal_bytes.Goals as goal

pub returns : goal.returns
returns c = equal_bytes
