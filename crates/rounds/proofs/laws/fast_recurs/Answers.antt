use Rattle.rounds.proofs.RecurringLaws as recurring
use Rattle.rounds.proofs.laws.fast_recurs.Goals as goal

pub returns : goal.returns
returns c = recurring.fast_recurs c.args.rounds.now c.args.place c.known.ensures.rounds c.requires
