use Rattle.std.proofs.Common.{ℕ, [], ap, ◌∙◌, subst}
use Rattle.std.specs.Prelude.{IfOk}
use Rattle.request.specs.Request.{RequestValue}
use Rattle.outlet.specs.Sending.{HasAnalysed}
use Rattle.threaded.proofs.opening.open_output.Goals as goal

pub returns-clause-analysed : goal.returns-clause-analysed
returns-clause-analysed c =
    let p = c.args.schedule.now in
    let P : ℕ → Type 0 = λ n. IfOk c.new.result (λ o. HasAnalysed o n c.watch.result []) in
    let Q : ℕ → Type 0 = λ n. IfOk c.new.result (λ o. HasAnalysed o p.first.request.rate n []) in
    let watch = c.watch.ensures.value ∙ ap (λ (v : RequestValue). v.watch) c.request.ensures.value ∙ (λ j. (c.plan-plan.ensures j).request.watch) in
    let rate = c.rate.ensures ∙ (λ j. (c.plan-plan.ensures j).request.rate) in
    subst Q watch (subst P rate c.new.ensures.analysed)
