use Rattle.std.proofs.Common.{rules}
use Rattle.advice.proofs.PeriodLaws.{sdt_within}
use Rattle.advice.proofs.rhythm.sdt_interval.Goals as goal

pub returns-clause-within : goal.returns-clause-within
returns-clause-within c =
    sdt_within c.args.rounds.now c.known.ensures.rounds _ _ _ c.rate-rate.ensures.value (search rules) c.milliseconds.ensures
