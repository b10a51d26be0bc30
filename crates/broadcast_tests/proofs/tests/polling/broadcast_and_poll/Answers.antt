use denote.Param.Send.{sendable}
use Rattle.std.proofs.Crossing.{crosses}
use Rattle.broadcast.proofs.SharingLaws.{broadcast_send}
use Rattle.broadcast_tests.proofs.tests.polling.broadcast_and_poll.Goals as goal

pub tick_and_poll-requires-send-B : goal.tick_and_poll-requires-send-B
tick_and_poll-requires-send-B g c κs within =
    let broadcast = broadcast_send _ g.E.PublishingEnd c.type_bounds.send-E in
    search (sendable, crosses) depth 40
