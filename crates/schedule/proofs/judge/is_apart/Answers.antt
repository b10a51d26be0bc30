use Rattle.std.proofs.Common.{◌≡◌, ◌+◌, ◌∙◌, inl, inr, ap, sym, subst, arith}
use Rattle.std.proofs.lemmas.Bool.{cases_lt}
use Rattle.plan.specs.Build.{PlanValue}
use Rattle.schedule.specs.Schedule.{schedule_of, plan_at}
use Rattle.schedule.specs.Switches.{ReusesNoPid}
use Rattle.schedule.proofs.JudgeLaws.{reuse_moves}
use Rattle.schedule.proofs.judge.is_apart.Goals as goal

pub returns-then-not-reuses_no_pid : goal.returns-then-not-reuses_no_pid
returns-then-not-reuses_no_pid c = (
  λ e. cc,
  λ apart.
      let s = schedule_of c.args.first.now c.args.later.now in
      let n = c.loop-number.number in
      let earlier : c.request.result.now ≡ (plan_at s n).request = c.request.ensures.value ∙ ap (λ (p : PlanValue). p.request) c.plan_at-earlier.ensures in
      let last : c.request-in-loop-number.result.now ≡ (plan_at s c.args.before).request =
      c.request-in-loop-number.ensures.value ∙ ap (λ (p : PlanValue). p.request) c.plan_at-last.ensures in
      let plan : c.request-in-loop-number-2.result.now ≡ (plan_at s (c.args.before + 1)).request =
      c.request-in-loop-number-2.ensures.value ∙ ap (λ (p : PlanValue). p.request) c.plan_at-plan.ensures in
      let one = apart.from_each n (omega (arith, c.loop-number-test.true)) in
      sym c.if-not-reuses_no_pid.true
      ∙ c.reuses_no_pid.ensures.1
      (reuse_moves (plan_at s n).request (plan_at s c.args.before).request (plan_at s (c.args.before + 1)).request c.request.result.now
      c.request-in-loop-number.result.now c.request-in-loop-number-2.result.now (sym earlier) (sym last) (sym plan) one),
)

pub loop-number-preserved : goal.loop-number-preserved
loop-number-preserved c = λ k within.
    let s = schedule_of c.args.first.now c.args.later.now in
    let n = c.loop-number.number in
    elim (cases_lt k n) [
      | inl l ↦ c.loop-number.invariant k l
      | inr g ↦
          let e : n ≡ k = omega (arith, g, within) in
          let earlier : c.request.result.now ≡ (plan_at s n).request = c.request.ensures.value ∙ ap (λ (p : PlanValue). p.request) c.plan_at-earlier.ensures in
          let last : c.request-in-loop-number.result.now ≡ (plan_at s c.args.before).request =
          c.request-in-loop-number.ensures.value ∙ ap (λ (p : PlanValue). p.request) c.plan_at-last.ensures in
          let plan : c.request-in-loop-number-2.result.now ≡ (plan_at s (c.args.before + 1)).request =
          c.request-in-loop-number-2.ensures.value ∙ ap (λ (p : PlanValue). p.request) c.plan_at-plan.ensures in
          subst (λ m. ReusesNoPid (plan_at s m).request (plan_at s c.args.before).request (plan_at s (c.args.before + 1)).request) e
          (reuse_moves c.request.result.now c.request-in-loop-number.result.now c.request-in-loop-number-2.result.now (plan_at s n).request
          (plan_at s c.args.before).request (plan_at s (c.args.before + 1)).request earlier last plan
          (c.reuses_no_pid.ensures.0 c.if-not-reuses_no_pid.false))
    ]
