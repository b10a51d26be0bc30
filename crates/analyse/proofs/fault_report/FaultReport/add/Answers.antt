use Rattle.std.proofs.Common.{rules, ◌≡◌, length, take, ap, ◌∙◌, sym, subst, refl}
use Rattle.analyse.specs.ReportValue.{ReportValue}
use Rattle.analyse.specs.FaultCounts.{AreCountsOf}
use Rattle.analyse.specs.declared.fault_counts.FaultCounts.{FaultCounts}
use Rattle.analyse.specs.declared.fault_report.FaultReport.TheInside.{Inside}
use Rattle.analyse.proofs.ReportLaws.{kept_one_more, kept_all}
use Rattle.analyse.proofs.fault_report.FaultReport.add.Goals as goal
use Rattle.analyse.proofs.fault_report.FaultReport.add.Goals.{then-self-lt-MOST_FIRST, else-self-lt-MOST_FIRST}

pub returns : goal.returns
returns c told has =
    let s = c.self.inside in
    let size : length s.places ≡ 10 = search rules in
    let first = ap (λ (v : ReportValue). v.first) c.self.view_is ∙ has.first_is in
    let counts = ap (λ (v : ReportValue). v.counts) c.self.view_is in
    let Counted : FaultCounts → Type 0 = λ v. AreCountsOf v told in
    elim c.if-self-lt-MOST_FIRST.branch [
      | then-self-lt-MOST_FIRST w ↦ record {
        first_is = ap (λ (x : Inside). take x.kept x.places) w.self-inside-is ∙ kept_one_more s.places told s.kept c.args.fault size w.if-self-lt-MOST_FIRST.true first;
        counts_are = c.add.ensures told c.args.fault refl (subst Counted (sym (ap (λ (x : Inside). x.counts) w.self-inside-is ∙ counts)) has.counts_are);
      }
      | else-self-lt-MOST_FIRST w ↦ record {
        first_is = ap (λ (x : Inside). take x.kept x.places) w.self-inside-is ∙ kept_all s.places told s.kept c.args.fault size w.if-self-lt-MOST_FIRST.false c.self.invariant first;
        counts_are = c.add.ensures told c.args.fault refl (subst Counted (sym (ap (λ (x : Inside). x.counts) w.self-inside-is ∙ counts)) has.counts_are);
      }
    ]
