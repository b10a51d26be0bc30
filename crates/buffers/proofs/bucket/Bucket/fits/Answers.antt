use Rattle.buffers.proofs.BucketLaws.{room-decides}
use Rattle.buffers.proofs.bucket.Bucket.fits.Goals as goal

pub returns-clause-windows : goal.returns-clause-windows
returns-clause-windows c bytes filled = room-decides _ _ _ bytes c.self.view_is c.level_after_packet.ensures c.self.invariant.level_to filled
