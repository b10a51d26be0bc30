use Rattle.analyse.proofs.GapsLaws.{pass_none}
use Rattle.analyse.proofs.gap_watches.GapWatches.pass.Goals as goal

pub returns-in_default-clause-seen : goal.returns-in_default-clause-seen
returns-in_default-clause-seen c watched mark s o = pass_none c.args.self.now watched mark c.args.count s (rw c.in_default.is at o)
