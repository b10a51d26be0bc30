use Rattle.std.proofs.Common.{◌≡◌, inl, inr, subst, arith}
use Rattle.std.proofs.lemmas.Bool.{cases_lt}
use Rattle.schedule.specs.Schedule.{schedule_of}
use Rattle.schedule.specs.Switches.{IsApart}
use Rattle.schedule.proofs.judge.no_pid_is_reused.Goals as goal

pub loop-before-preserved : goal.loop-before-preserved
loop-before-preserved c = λ k within.
    let n = c.loop-before.before in
    elim (cases_lt k n) [
      | inl l ↦ c.loop-before.invariant k l
      | inr g ↦
          let e : n ≡ k = omega (arith, g, within) in
          subst (λ m. IsApart (schedule_of c.args.first.now c.args.later.now) m) e (c.is_apart.ensures.0 c.if-not-is_apart.false)
    ]
