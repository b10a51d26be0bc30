use Rattle.std.proofs.Common.{◌≡◌, ℕ, inl, inr, get_or, ap, subst, ◌∙◌, arith}
use Rattle.std.proofs.lemmas.Bool.{cases_lt}
use Rattle.std.proofs.lemmas.List.{get_or_default}
use Rattle.plan.specs.Build.{PlanValue}
use Rattle.plan.specs.Built.{IsBuilt}
use Rattle.schedule.proofs.SpanLaws.{all_built}
use Rattle.schedule.proofs.built.know_plans.Goals as goal

pub loop-after-preserved : goal.loop-after-preserved
loop-after-preserved c = λ k d within.
    let later = c.args.later.now in
    elim (cases_lt k c.loop-after.after-index) [
      | inl l ↦ c.loop-after.invariant k d l
      | inr g ↦
          let e : c.loop-after.after-index ≡ k = omega (arith, within, g) in
          let here : c.after-item.result ≡ get_or later k d =
          c.after-item.is ∙ get_or_default later c.loop-after.after-index c.after-item.result d c.loop-after-test.true ∙ ap (λ n. get_or later n d) e in
          subst (λ (w : ℕ × PlanValue). IsBuilt w.1) here c.known-in-loop-after.ensures
    ]

pub returns : goal.returns
returns c =
    all_built c.args.first.now c.args.later.now c.known.ensures
    (λ k d within. c.loop-after.invariant k d (omega (arith, within, c.loop-after-test.false)))
