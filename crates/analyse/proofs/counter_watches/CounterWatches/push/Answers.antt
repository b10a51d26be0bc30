use Rattle.analyse.proofs.CountersLaws.{bad_none}
use Rattle.analyse.proofs.counter_watches.CounterWatches.push.Goals as goal

pub returns-in-None-clause-bad : goal.returns-in-None-clause-bad
returns-in-None-clause-bad c slots slot s r = bad_none slots slot (rw c.in-None.is at r)
