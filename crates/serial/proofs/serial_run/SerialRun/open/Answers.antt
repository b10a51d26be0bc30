use Rattle.std.proofs.Common.{ℕ, [], ◌<◌, length, ap, ◌∙◌, subst, arith}
use Rattle.mux.specs.History.{History}
use Rattle.request.specs.Request.{RequestValue}
use Rattle.outlet.specs.Sending.{HasAnalysed}
use Rattle.serial.proofs.OpeningLaws.{runs_opened, told_of_opened}
use Rattle.serial.proofs.serial_run.SerialRun.open.Goals as goal

pub returns-clause-running : goal.returns-clause-running
returns-clause-running g c =
    let p = c.args.schedule in
    let piece : 0 < length c.in_ok-piece.piece.items = omega (arith, c.in_ok-piece.ensures.len, c.in_ok-piece.piece.ok.0) in
    let P : ℕ → Type 0 = λ n. HasAnalysed c.in_ok-output.output n c.watch.result [] in
    let Q : ℕ → Type 0 = λ n. HasAnalysed c.in_ok-output.output p.first.request.rate n [] in
    let watch = c.watch.ensures.value ∙ ap (λ (v : RequestValue). v.watch) c.request.ensures.value ∙ (λ j. (c.plan-plan.ensures j).request.watch) in
    runs_opened g.R.Source.remaining g.R.Source.failures c.args.limit p c.args.slots c.args.readers.items _ c.in_ok-mux.ensures c.requires.readers c.in_ok-inputs.ensures piece
    (subst Q watch (subst P (c.rate.ensures ∙ (λ j. (c.plan-plan.ensures j).request.rate)) c.in_ok-output.ensures.analysed))

pub returns-clause-new : goal.returns-clause-new
returns-clause-new g c = ap (λ (v : History). v.events) c.in_ok-mux.ensures

pub returns-clause-waiting : goal.returns-clause-waiting
returns-clause-waiting g c = c.in_ok-output.ensures.waiting

pub returns-clause-failures : goal.returns-clause-failures
returns-clause-failures g c =
    told_of_opened g.R.Source.remaining g.R.Source.failures c.args.limit c.args.schedule c.args.readers.items c.in_ok-inputs.inputs.items c.in_ok-inputs.ensures
