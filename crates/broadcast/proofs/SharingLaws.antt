-- What may go to other threads: a station and a feed's writer each by themselves, and so what holds both.
use denote.RattleType.{RattleType}
use denote.Param.Send.{IsSend, sendable}
use Rattle.std.proofs.Crossing.{crosses}
use Rattle.feed.specs.declared.publishing_end.PublishingEnd.{Ghosts}
use Rattle.feed.specs.contracts.feed_writer.FeedWriter as Writer
use Rattle.feed.proofs.feed_writer.FeedWriter.TheSendSync as WriterCrosses
use Rattle.station.specs.contracts.station.Station as Station
use Rattle.inlets.specs.contracts.entry.Entry as Entry
use Rattle.buffers.specs.contracts.pid_queue.PidQueue as Queue
use Rattle.buffers.proofs.pid_queue.PidQueue.TheSendSync as QueueCrosses
use Rattle.plan.specs.contracts.multiplex_plan.Plan as Plan
use Rattle.mux.specs.contracts.output.Output as Output
use Rattle.mux.specs.contracts.input_state.InputState as InputState
use Rattle.mux.specs.contracts.progress.Progress as Progress
use Rattle.mux.specs.contracts.mux.Mux as Mux
use Rattle.port.specs.contracts.ring_end.RingEnd as Ring
use Rattle.port.proofs.ring_end.RingEnd.TheSendSync as RingCrosses
use Rattle.broadcast.specs.contracts.broadcast.Broadcast as Broadcast

entry_of : IsSend Ring.the_row → IsSend (Entry.the_row Ring.the_row)
entry_of ring = search (sendable, crosses) depth 60 fits 1000000

plan_send : IsSend Plan.the_row
plan_send = search (sendable, crosses) depth 60 fits 1000000

output_send : IsSend Output.the_row
output_send = search (sendable, crosses) depth 60 fits 1000000

input_send : IsSend InputState.the_row
input_send = search (sendable, crosses) depth 60 fits 1000000

progress_send : IsSend Progress.the_row
progress_send = search (sendable, crosses) depth 60 fits 1000000

mux_of : IsSend Plan.the_row → IsSend Output.the_row → IsSend InputState.the_row → IsSend Progress.the_row → IsSend Queue.the_row → IsSend Mux.the_row
mux_of plan output input progress queue = search (sendable, crosses) depth 60 fits 1000000

mux_send : IsSend Mux.the_row
mux_send = mux_of plan_send output_send input_send progress_send QueueCrosses.the_send

station_of : IsSend Mux.the_row → IsSend (Entry.the_row Ring.the_row) → IsSend Station.the_row
station_of mux entry = search (sendable, crosses) depth 60 fits 1000000

broadcast_of : (E : RattleType) (g : Ghosts E.Denot) → IsSend Station.the_row → IsSend (Writer.the_row E g) → IsSend (Broadcast.the_row E g)
broadcast_of E g station writer = search (sendable, crosses) depth 60 fits 1000000

pub broadcast_send : (E : RattleType) (g : Ghosts E.Denot) → IsSend E → IsSend (Broadcast.the_row E g)
broadcast_send E g end = broadcast_of E g (station_of mux_send (entry_of RingCrosses.the_send)) (WriterCrosses.the_send E g end)
