use Rattle.mux.proofs.Ends as ends
use Rattle.mux.proofs.laws.output_is_unique.Goals as goal

pub returns : goal.returns
returns c = ends.output_is_unique
