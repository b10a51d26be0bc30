use Rattle.mux.proofs.Opening as opening
use Rattle.mux.proofs.laws.opens_once.Goals as goal

pub returns : goal.returns
returns c = opening.opens_once
