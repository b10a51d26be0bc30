use Rattle.std.proofs.Common.{◌∙◌}
use Rattle.analyse.proofs.SyncLaws.{seen_more, lost_now}
use Rattle.analyse.proofs.sync_watch.SyncWatch.push.Goals as goal

pub returns-clause-seen : goal.returns-clause-seen
returns-clause-seen c slots s = rw c.behind.ensures (seen_more c.args.self.now slots c.args.slot.now s)

pub returns-clause-lost : goal.returns-clause-lost
returns-clause-lost c slots s = c.is_lost_by-lost.ensures ∙ lost_now c.args.self.now slots c.args.slot.now s
