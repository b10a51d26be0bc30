use denote.Param.Send.{sendable}
use Rattle.std.proofs.Crossing.{crosses}
use Rattle.broadcast.proofs.SharingLaws.{broadcast_send}
use Rattle.broadcast.proofs.laws.share_lock.Goals as goal

pub share-requires-sync-T : goal.share-requires-sync-T
share-requires-sync-T g c κs within =
    let broadcast = broadcast_send _ g.E.PublishingEnd c.type_bounds.send-E in
    search (sendable, crosses) depth 40
