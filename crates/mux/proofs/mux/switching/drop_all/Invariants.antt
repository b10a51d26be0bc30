use Rattle.std.proofs.Common.{◌≡◌, ◌+◌, length}
use Rattle.mux.proofs.mux.switching.drop_all.Given as goal

abbrev pub invariant-loop-taken : goal.invariant-loop-taken
invariant-loop-taken l = record {
  left : length l.queue.items + l._taken ≡ length l.fn.queue.items;
  capacity : l.queue.capacity ≡ l.fn.queue.capacity;
}
