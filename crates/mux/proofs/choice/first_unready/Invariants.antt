use Rattle.std.proofs.Common.{ℕ, ◌<◌, get_or}
use Rattle.std.specs.Prelude.{IsTrue}
use Rattle.mux.specs.declared.input_state.InputState.{InputState}
use Rattle.mux.specs.Keeping.{ready_at}
use Rattle.mux.proofs.choice.first_unready.Given as goal

abbrev pub invariant-loop-i : goal.invariant-loop-i
invariant-loop-i l = (k : ℕ) (d : InputState) → k < l.i → IsTrue (ready_at l.now (get_or l.inputs k d))
