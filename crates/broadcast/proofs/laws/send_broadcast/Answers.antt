use denote.Param.Send.{sendable}
use Rattle.std.proofs.Crossing.{crosses}
use Rattle.broadcast.proofs.SharingLaws.{broadcast_send}
use Rattle.broadcast.proofs.laws.send_broadcast.Goals as goal

pub sent-requires-send-T : goal.sent-requires-send-T
sent-requires-send-T g c κs within =
    let broadcast = broadcast_send _ g.E.PublishingEnd c.type_bounds.send-E in
    search (sendable, crosses) depth 40
