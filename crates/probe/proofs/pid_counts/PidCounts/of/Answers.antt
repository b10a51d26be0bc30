use Rattle.std.proofs.Common.{◌≡◌, ℕ, List, get_or, subst, sym, ap, ◌∙◌}
use Rattle.probe.specs.declared.sighting.Sighting.{Sighting}
use Rattle.probe.specs.declared.pid_count.PidCount.{PidCount}
use Rattle.probe.specs.Counts.{IsCountOf}
use Rattle.probe.proofs.pid_counts.PidCounts.of.Goals as goal

pub returns : goal.returns
returns c =
    let counts = c.self.inside.counts.items in
    let now = c.index.result.now in
    let at : now ≡ get_or counts c.args.pid now = c.index.ensures ∙ ap (λ (n : ℕ). get_or counts n now) c.from.ensures in
    let P : PidCount → Type 0 = IsCountOf c.args.pid c.self.inside.past in
    let Q : List Sighting → Type 0 = λ seen. IsCountOf c.args.pid seen now in
    subst Q c.self.view_is (subst P (sym at) (c.self.invariant.counts_are c.args.pid c.requires now).count)
