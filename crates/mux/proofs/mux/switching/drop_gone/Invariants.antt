use Rattle.std.proofs.Common.{◌≡◌, take}
use Rattle.mux.specs.Keeping.{KeepsHeads}
use Rattle.mux.specs.Switching.{after_switch, with_dropped}
use Rattle.mux.proofs.mux.switching.drop_gone.Given as goal

abbrev pub invariant-loop-place : goal.invariant-loop-place
invariant-loop-place l = record {
  queues : l.queues.items ≡ after_switch l.fn.plan (take l.place l.fn.streams) l.fn.queues.items;
  heads : KeepsHeads l.heads l.queues.items l.fn.streams;
  inputs : l.inputs.items ≡ with_dropped l.fn.plan (take l.place l.fn.streams) l.fn.queues.items l.fn.inputs.items;
}
