use Rattle.std.proofs.Common.{rules}
use Rattle.advice.proofs.PeriodLaws.{shortest_lawful, shortest_least}
use Rattle.advice.proofs.rhythm.shortest_period.Goals as goal

pub returns-clause-lawful : goal.returns-clause-lawful
returns-clause-lawful c = shortest_lawful c.args.rounds.now c.known.ensures.rounds _ (search rules)

pub returns-clause-least : goal.returns-clause-least
returns-clause-least c = shortest_least c.args.rounds.now _ (search rules)
