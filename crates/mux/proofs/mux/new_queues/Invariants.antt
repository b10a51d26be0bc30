use Rattle.std.proofs.Common.{◌≡◌, map, take}
use Rattle.mux.specs.Keeping.{empty_queue}
use Rattle.mux.proofs.mux.new_queues.Given as goal

abbrev pub invariant-loop : goal.invariant-loop
invariant-loop l = l.queues.items ≡ map (empty_queue l.capacity) (take l.index l.streams)
