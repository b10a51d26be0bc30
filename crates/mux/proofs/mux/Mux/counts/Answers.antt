use Rattle.std.proofs.Common.{subst}
use Rattle.mux.specs.History.{History}
use Rattle.mux.specs.Totals.{IsCounts}
use Rattle.mux.proofs.Counting.{are_counts}
use Rattle.mux.proofs.mux.Mux.counts.Goals as goal

pub returns : goal.returns
returns c =
    let h = c.self.inside.past in
    let R : History → Type 0 = λ x. IsCounts x.events c.self.inside.counts in
    subst R c.self.view_is (are_counts h c.self.inside.counts c.self.invariant.0.counts_are)
