use Rattle.std.proofs.Common.{sym, ap, ◌∙◌, arith, [], ◌∷◌, ◌++◌}
use Rattle.std.proofs.lemmas.List.FromFn.{map-range_with_len_more}
use Rattle.mux.specs.Keeping.{new_state}
use Rattle.mux.proofs.mux.new_states.Goals as goal

pub loop-preserved : goal.loop-preserved
loop-preserved c =
    c.in_ok-push.ensures.items ∙ ap (λ xs. xs ++ new_state c.loop.counter ∷ []) c.loop.invariant
    ∙ sym (map-range_with_len_more new_state 0 c.loop.counter c.loop.counter (omega arith))
