use Rattle.std.proofs.Common.{refl, sym, ap, ◌∙◌, arith, [], ◌∷◌, ◌++◌, map, take}
use Rattle.mux.proofs.Lists.{one_more}
use Rattle.mux.specs.Keeping.{empty_queue}
use Rattle.mux.proofs.mux.new_queues.Goals as goal

pub loop-preserved : goal.loop-preserved
loop-preserved c =
    c.in_ok-push.ensures.items
    ∙ ap (λ xs. xs ++ c.in_ok-with_capacity.field-0 ∷ []) c.loop.invariant
    ∙ ap (λ x. map (empty_queue c.args.capacity) (take c.loop.index c.args.streams.now) ++ x ∷ []) c.in_ok-with_capacity.ensures
    ∙ sym (one_more _ c.args.streams.now c.loop.index (empty_queue c.args.capacity) (λ x. refl) (omega arith))
