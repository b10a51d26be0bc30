use Rattle.std.proofs.Common.{◌≡◌, map, take, drop, ◌++◌}
use Rattle.mux.specs.Keeping.{without_notes}
use Rattle.mux.proofs.choice.clear_notes.Given as goal

abbrev pub invariant-loop-x : goal.invariant-loop-x
invariant-loop-x l = l.x-items ≡ map without_notes (take l.x-index l.fn.inputs.items) ++ drop l.x-index l.fn.inputs.items
