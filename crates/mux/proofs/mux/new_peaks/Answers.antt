use Rattle.std.proofs.Common.{refl, sym, ap, ◌∙◌, arith, [], ◌∷◌, ◌++◌}
use Rattle.mux.specs.declared.peak.Peak.{Peak}
use Rattle.mux.specs.Keeping.{no_peak}
use Rattle.mux.proofs.Lists.{one_more}
use Rattle.mux.proofs.mux.new_peaks.Goals as goal

pub loop-preserved : goal.loop-preserved
loop-preserved c =
    let none : Peak = record { delay = 0; queued = 0 } in
    c.in_ok-push.ensures.items ∙ ap (λ xs. xs ++ none ∷ []) c.loop.invariant ∙ sym (one_more none c.args.streams.now c.loop.index no_peak (λ x. refl) (omega arith))
