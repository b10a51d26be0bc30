use Rattle.analyse.proofs.CounterLaws.{packets_first}
use Rattle.analyse.proofs.counter_watch.CounterWatch.new.Goals as goal

pub returns : goal.returns
returns c = packets_first c.args.first.now
