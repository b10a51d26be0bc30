use Rattle.std.proofs.Common.{◌≡◌, ◌+◌, ◌≤◌, length, drop, map}
use Rattle.std.specs.Prelude.{vec_capacity}
use Rattle.std.specs.Vec.Iter.{into_iter_items, into_iter_len}
use Rattle.workers.specs.Crews.{AreEnded}
use Rattle.workers.proofs.crew.join_all.Given as goal

abbrev pub invariant-loop-handle : goal.invariant-loop-handle
invariant-loop-handle g l = record {
  station : l.station ≡ l.fn.station;
  ended : AreEnded g.R.Source.remaining g.R.Source.failures l.fn.station (map (λ h. h.promise.worker.value) l.fn.handles.items) l.ended.items;
  rest : drop (length l.ended.items) l.fn.handles.items ≡ into_iter_items l.handle-iterator;
  left : length l.ended.items + into_iter_len l.handle-iterator ≡ length l.fn.handles.items;
  room : length l.fn.handles.items ≤ vec_capacity l.ended;
}
