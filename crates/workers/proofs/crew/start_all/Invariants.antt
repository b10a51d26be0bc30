use Rattle.std.proofs.Common.{◌≡◌, ◌+◌, ◌≤◌, length, drop, map}
use Rattle.std.specs.Prelude.{vec_capacity}
use Rattle.std.specs.Vec.Iter.{into_iter_items, into_iter_len}
use Rattle.workers.specs.Crews.{AreStarted}
use Rattle.workers.proofs.crew.start_all.Given as goal

abbrev pub invariant-loop-reader : goal.invariant-loop-reader
invariant-loop-reader g l = record {
  started : AreStarted l.limit l.schedule l.fn.seats.items (map (λ h. h.promise.worker.value) l.handles.items);
  rest : drop (length l.handles.items) l.fn.seats.items ≡ into_iter_items l.reader-iterator;
  left : length l.handles.items + into_iter_len l.reader-iterator ≡ length l.fn.seats.items;
  room : length l.fn.seats.items ≤ vec_capacity l.handles;
}
