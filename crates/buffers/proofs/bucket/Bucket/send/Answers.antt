use Rattle.buffers.proofs.BucketLaws.{filled-packet, AllFit-packet}
use Rattle.buffers.proofs.bucket.Bucket.send.Goals as goal

pub returns-clause-level : goal.returns-clause-level
returns-clause-level c bytes filled = filled-packet _ _ _ bytes c.self.view_is c.level_after_packet-self-inside.ensures filled

pub returns-clause-all_fit : goal.returns-clause-all_fit
returns-clause-all_fit c bytes filled fit = AllFit-packet _ _ bytes c.self.view_is c.self.invariant.level_to filled c.requires fit
