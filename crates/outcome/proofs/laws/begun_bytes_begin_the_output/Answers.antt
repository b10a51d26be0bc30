use Rattle.outcome.proofs.OutputLaws.{begins_the_output, begins_every_history}
use Rattle.outcome.proofs.laws.begun_bytes_begin_the_output.Goals as goal

pub returns-clause-output : goal.returns-clause-output
returns-clause-output c = begins_the_output

pub returns-clause-every_history : goal.returns-clause-every_history
returns-clause-every_history c = begins_every_history
