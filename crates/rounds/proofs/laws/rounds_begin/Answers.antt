use Rattle.rounds.proofs.RecurringLaws as recurring
use Rattle.rounds.proofs.laws.rounds_begin.Goals as goal

pub returns : goal.returns
returns c = recurring.rounds_begin c.args.rounds.now c.known.ensures.rounds
