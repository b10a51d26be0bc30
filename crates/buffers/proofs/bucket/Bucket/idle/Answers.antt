use Rattle.buffers.proofs.BucketLaws.{filled-others, AllFit-others}
use Rattle.buffers.proofs.bucket.Bucket.idle.Goals as goal

pub returns-clause-level : goal.returns-clause-level
returns-clause-level c bytes filled = filled-others _ _ _ bytes c.self.view_is c.saturating_sub-self-inside.ensures filled

pub returns-clause-all_fit : goal.returns-clause-all_fit
returns-clause-all_fit c bytes filled fit = AllFit-others _ _ bytes c.self.view_is c.self.invariant.level_to filled fit
