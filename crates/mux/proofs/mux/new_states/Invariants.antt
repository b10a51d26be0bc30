use Rattle.std.proofs.Common.{◌≡◌, map}
use Rattle.mux.specs.Keeping.{new_state}
use Rattle.std.specs.List.{range_with_len}
use Rattle.mux.proofs.mux.new_states.Given as goal

abbrev pub invariant-loop : goal.invariant-loop
invariant-loop l = l.states.items ≡ map new_state (range_with_len 0 l.counter)
