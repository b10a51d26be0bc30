use Rattle.std.proofs.Common.{◌≡◌, ◌∙◌, ◌∷◌, [], ℕ, List, length, ap, refl, sym, arith}
use Rattle.std.specs.Prelude.{vec_len, nat_le, count_by}
use Rattle.std.proofs.lemmas.Bool.{eqb-true}
use Rattle.plan.specs.Build.{PlanValue}
use Rattle.schedule.specs.Schedule.{ScheduleValue, schedule_of, number_for}
use Rattle.schedule.proofs.TimeLaws.{counted}
use Rattle.schedule.proofs.schedule.Schedule.number_for.Goals as goal

-- with one plan each packet belongs to it
one_plan : (first : PlanValue) (later : List (ℕ × PlanValue)) (stamp : ℕ) → length later ≡ 0 → 0 ≡ number_for (schedule_of first later) stamp
one_plan first [] stamp e = refl
one_plan first (w ∷ later) stamp e = absurd (omega (arith, e))

pub returns-then-is_empty-clause-value : goal.returns-then-is_empty-clause-value
returns-then-is_empty-clause-value c =
    let stamp = c.args.stamp in
    let zero = eqb-true (vec_len c.self.inside.later) 0 (sym c.is_empty.ensures ∙ c.if-is_empty.true) in
    one_plan c.self.inside.first c.self.inside.later.items stamp (omega (arith, zero, c.self.inside.later.ok.0)) ∙ ap (λ (s : ScheduleValue). number_for s stamp) c.self.view_is

pub returns-clause-value : goal.returns-clause-value
returns-clause-value c =
    let stamp = c.args.stamp in
    c.times_come.ensures.value ∙ ap (λ (ts : List ℕ). count_by (λ t. nat_le t stamp) ts) (c.deref.ensures.value ∙ c.self.invariant.2)
    ∙ counted c.self.inside.first c.self.inside.later.items stamp ∙ ap (λ (s : ScheduleValue). number_for s stamp) c.self.view_is
