use Rattle.std.proofs.Common.{◌≡◌, ◌≤◌, ◌<◌, ℕ, List, length, get_or, subst, arith}
use Rattle.plan.specs.Build.{PlanValue}
use Rattle.schedule.specs.Schedule.{schedule_of}
use Rattle.schedule.specs.Switches.{SlotsFollow}
use Rattle.schedule.proofs.SpanLaws.{later_count, slot_read}
use Rattle.schedule.proofs.schedule.switch_times.Goals as goal

-- no later plan begins behind slot 999,999
last_slot : (first : PlanValue) (later : List (ℕ × PlanValue)) → SlotsFollow (schedule_of first later) → (number : ℕ) (w : ℕ × PlanValue)
    → number < length later → w ≡ get_or later number w → w.0 ≤ 999999
last_slot first later follow number w within is =
    let size = later_count first later in
    let there = (follow.each number (omega (arith, within, size))).within in
    subst (λ n. n ≤ 999999) (slot_read first later number w within is) there

pub overflow_mul-after : goal.overflow_mul-after
overflow_mul-after c =
    let low = last_slot c.args.first.now c.args.later.now c.requires c.loop-after.after-index c.after-item.result c.loop-after-test.true c.after-item.is in
    omega (arith, low)

pub overflow_add-after : goal.overflow_add-after
overflow_add-after c =
    let low = last_slot c.args.first.now c.args.later.now c.requires c.loop-after.after-index c.after-item.result c.loop-after-test.true c.after-item.is in
    omega (arith, low)

pub time-requires-clause-position : goal.time-requires-clause-position
time-requires-clause-position c =
    let low = last_slot c.args.first.now c.args.later.now c.requires c.loop-after.after-index c.after-item.result c.loop-after-test.true c.after-item.is in
    omega (arith, low)
