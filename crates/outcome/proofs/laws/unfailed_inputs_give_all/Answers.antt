use Rattle.outcome.proofs.OutputLaws.{give_all}
use Rattle.outcome.proofs.laws.unfailed_inputs_give_all.Goals as goal

pub returns : goal.returns
returns c = give_all
