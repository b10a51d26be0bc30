use Rattle.std.proofs.Common.{rules}
use Rattle.advice.proofs.PeriodLaws.{longest_lawful, longest_greatest}
use Rattle.advice.proofs.rhythm.longest_period.Goals as goal

pub returns-clause-lawful : goal.returns-clause-lawful
returns-clause-lawful c = longest_lawful c.args.rounds.now c.known.ensures.rounds _ (search rules)

pub returns-clause-greatest : goal.returns-clause-greatest
returns-clause-greatest c = longest_greatest c.args.rounds.now c.known.ensures.rounds _ (search rules)
