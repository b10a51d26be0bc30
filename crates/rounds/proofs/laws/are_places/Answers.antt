use Rattle.rounds.proofs.RecurringLaws as recurring
use Rattle.rounds.proofs.laws.are_places.Goals as goal

pub returns : goal.returns
returns c = recurring.are_places c.args.rounds.now c.known.ensures.rounds
