use Rattle.std.proofs.Common.{◌+◌, Some, subst, arith, sym, ◌∙◌}
use Rattle.analyse.specs.GapsWatching.{GapsState, HaveSeenNumbers, OnlyMarked}
use Rattle.analyse.proofs.GapsLaws.{pass_on, pass_off}
use Rattle.analyse.proofs.gap_watches.GapWatches.pass_marked.Goals as goal

pub returns-then-index-clause-seen : goal.returns-then-index-clause-seen
returns-then-index-clause-seen c watched mark packet e s m =
    let t = subst (λ (w : GapsState). HaveSeenNumbers w watched mark c.args.count) (sym c.self.view_is) s in
    let q = subst (λ (w : GapsState). OnlyMarked w watched mark c.args.count (Some packet)) (sym c.self.view_is) m in
    pass_on c.self.inside.limit c.self.inside.watched.items c.self.inside.since.items c.self.inside.due watched mark c.args.count c.from-place.result packet c.index.result.now
    (c.from-place.ensures ∙ sym e) (omega (arith, c.from-place.ensures, c.requires)) c.self.invariant.0 c.self.invariant.1 c.index.ensures c.lesser_due-self-inside.result c.lesser_due-self-inside.ensures.below c.lesser_due-self-inside.ensures.at_most c.if-index.true t q

pub returns-else-index-clause-seen : goal.returns-else-index-clause-seen
returns-else-index-clause-seen c watched mark packet e s m =
    let t = subst (λ (w : GapsState). HaveSeenNumbers w watched mark c.args.count) (sym c.self.view_is) s in
    let q = subst (λ (w : GapsState). OnlyMarked w watched mark c.args.count (Some packet)) (sym c.self.view_is) m in
    subst (λ (w : GapsState). HaveSeenNumbers w watched mark (c.args.count + 1)) c.self.view_is
    (pass_off c.self.inside.limit c.self.inside.watched.items c.self.inside.since.items c.self.inside.due watched mark c.args.count c.from-place.result packet c.index.result.now
    (c.from-place.ensures ∙ sym e) (omega (arith, c.from-place.ensures, c.requires)) c.self.invariant.0 c.self.invariant.1 c.index.ensures c.if-index.false t q)
