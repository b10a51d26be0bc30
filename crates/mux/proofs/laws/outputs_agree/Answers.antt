use Rattle.mux.proofs.Same as same
use Rattle.mux.proofs.laws.outputs_agree.Goals as goal

pub returns : goal.returns
returns c = same.outputs_agree
