use Rattle.std.proofs.Common.{[]}
use Rattle.analyse.proofs.analyser.see_first.Goals as goal

pub returns-clause-seen : goal.returns-clause-seen
returns-clause-seen c = c.in_ok-see.ensures.seen c.args.rate c.args.period [] c.in_ok-first.ensures

pub returns-clause-told : goal.returns-clause-told
returns-clause-told c = c.in_ok-see.ensures.told c.args.rate c.args.period [] c.in_ok-first.ensures
