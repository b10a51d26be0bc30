use Rattle.std.proofs.Common.{ℕ, ap, ◌∙◌, Option}
use Rattle.analyse.specs.GapWatching.{GapState, since_behind, is_long}
use Rattle.analyse.proofs.GapLaws.{since_more, told_now}
use Rattle.analyse.proofs.gap_watch.GapWatch.push.Goals as goal

pub returns-clause-seen : goal.returns-clause-seen
returns-clause-seen c w m s p q =
    let old = ap (λ (g : GapState). g.since) c.self.view_is in
    let e = c.since_behind-self-inside.ensures ∙ ap (λ (o : Option ℕ). since_behind o c.args.count c.args.watched c.args.mark) old in
    record { since = rw e (since_more w m c.args.count c.args.self.now.since c.args.watched c.args.mark p q s.since) }

pub returns-clause-told : goal.returns-clause-told
returns-clause-told c w m s p q =
    let old = ap (λ (g : GapState). g.since) c.self.view_is in
    let e = c.since_behind-self-inside.ensures ∙ ap (λ (o : Option ℕ). since_behind o c.args.count c.args.watched c.args.mark) old in
    let limit = ap (λ (g : GapState). g.limit) c.self.view_is in
    c.is_told.ensures
    ∙ ap (λ (k : ℕ). is_long k c.args.count c.since_behind-self-inside.result) limit
    ∙ told_now c.args.self.now.limit w m c.args.count c.since_behind-self-inside.result
    (rw e (since_more w m c.args.count c.args.self.now.since c.args.watched c.args.mark p q s.since))
