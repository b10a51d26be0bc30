use Rattle.std.proofs.Common.{◌≡◌, ℕ, List, [], ◌∷◌, ◌++◌, length, sym, subst, arith}
use Rattle.mux.specs.Totals.{IsTotals}
use Rattle.outcome.specs.Ending.{IsLast, AreReported}
use Rattle.outcome.specs.declared.summary.InputSummary.{InputSummary}
use Rattle.outcome.proofs.ReportLaws.{reported_push}
use Rattle.outcome.proofs.ending.end_inputs.Goals as goal

pub loop-input-preserved : goal.loop-input-preserved
loop-input-preserved g c =
    let l = c.loop-input in
    let p = c.args.mux.now.run.schedule in
    let h = c.args.mux.now.events in
    let x = c.in-Some.input in
    let report = c.last_report-report.result in
    let summary : InputSummary = record { report = report; totals = c.totals.result } in
    let place : c.len-number.result ≡ length l.summaries.items = omega (arith, c.len-number.ensures, l.summaries.ok.0) in
    let P : ℕ → Type 0 = λ n. IsTotals p n h c.totals.result in
    let last : IsLast x.is_closed x.report report = record { left = c.last_report-report.ensures.left; closed = c.last_report-report.ensures.closed; stopped = c.last_report-report.ensures.stopped } in
    let S : List InputSummary → Type 0 = λ v. AreReported p h (l.yielded ++ x ∷ []) v c.push-in-loop-input.new.self.items in
    let T : List g.row.T.Denot → Type 0 = λ v. AreReported p h (l.yielded ++ x ∷ []) (l.summaries.items ++ summary ∷ []) v in
    subst S (sym c.in_ok-push.ensures.items) (subst T (sym c.in_ok-push-2.ensures.items)
    (reported_push p h l.yielded l.summaries.items l.lent.items x summary l.invariant (subst P place c.totals.ensures) last))
