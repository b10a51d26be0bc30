use Rattle.std.proofs.Common.{◌≡◌, take}
use Rattle.mux.specs.Totals.{told}
use Rattle.mux.specs.Switching.{waiting_in}
use Rattle.mux.proofs.mux.count_queued.Given as goal

abbrev pub invariant-loop-place : goal.invariant-loop-place
invariant-loop-place l = l.count ≡ told (waiting_in l.input (take l.place l.streams) (take l.place l.queues))
