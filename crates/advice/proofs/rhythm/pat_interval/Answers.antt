use Rattle.advice.proofs.PeriodLaws.{pat_within}
use Rattle.advice.proofs.rhythm.pat_interval.Goals as goal

pub returns-clause-within : goal.returns-clause-within
returns-clause-within c =
    pat_within c.args.rounds.now c.known.ensures.rounds _ _ _ c.rate.ensures.value c.period.ensures c.milliseconds.ensures
