use Rattle.rounds.proofs.RecurringLaws as recurring
use Rattle.rounds.proofs.laws.tables_are_apart.Goals as goal

pub returns : goal.returns
returns c = recurring.are_apart c.args.rounds.now c.known.ensures.rounds
