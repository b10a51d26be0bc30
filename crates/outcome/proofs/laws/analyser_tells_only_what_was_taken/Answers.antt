use Rattle.outcome.proofs.OutputLaws.{only_what_was_taken}
use Rattle.outcome.proofs.laws.analyser_tells_only_what_was_taken.Goals as goal

pub returns : goal.returns
returns c = only_what_was_taken
