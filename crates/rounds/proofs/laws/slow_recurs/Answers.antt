use Rattle.rounds.proofs.RecurringLaws as recurring
use Rattle.rounds.proofs.laws.slow_recurs.Goals as goal

pub returns-clause-sdt : goal.returns-clause-sdt
returns-clause-sdt c = recurring.slow_recurs c.args.rounds.now c.args.place c.known.ensures.rounds c.requires

pub returns-clause-nit : goal.returns-clause-nit
returns-clause-nit c = recurring.slow_recurs_late c.args.rounds.now c.args.place c.known.ensures.rounds c.requires
