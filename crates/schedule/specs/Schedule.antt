-- Plans one after another, each in force from a slot on that is known from the start (profile).
use Rattle.std.specs.Prelude.{ℕ, ◌+◌, ◌*◌, nat_le, List, [], ◌∷◌, map, Option, slice_index_or, count_by}
use Rattle.tspkt.specs.Stamps.{time_of}
use Rattle.plan.specs.declared.planned_stream.PlannedStream.{PlannedStream}
use Rattle.plan.specs.StreamPlace.{planned_stream}
use Rattle.plan.specs.Build.{PlanValue}

-- a plan, and the slot that it is in force from
pub record SpanValue : Type 0 where
  pub slot : ℕ
  pub plan : PlanValue

-- a plan, and those that follow it
pub record ScheduleValue : Type 0 where
  pub first : PlanValue
  pub later : List SpanValue

-- the schedule of a plan and of these later ones, each with its slot
abbrev pub schedule_of : PlanValue → List (ℕ × PlanValue) → ScheduleValue
schedule_of first later = record { first = first; later = map (λ (w : ℕ × PlanValue). record { slot = w.0; plan = w.1 }) later }

-- a schedule of one plan
abbrev pub single : PlanValue → ScheduleValue
single p = record { first = p; later = [] }

-- all plans in their order, numbered from 0: the span of one goes from its slot to that of the next
abbrev pub spans : ScheduleValue → List SpanValue
spans s = record { slot = 0; plan = s.first } ∷ s.later

-- the span of this number, and its plan
abbrev pub span_at : ScheduleValue → ℕ → SpanValue
span_at s number = slice_index_or (spans s) number (record { slot = 0; plan = s.first })

abbrev pub plan_at : ScheduleValue → ℕ → PlanValue
plan_at s number = (span_at s number).plan

-- when slot m goes out: the time of its byte 10, in which a PCR's base ends, in ticks of 27 MHz
abbrev pub slot_time : PlanValue → ℕ → ℕ
slot_time p m = time_of (188 * m + 10) p.request.rate

-- The number of the plan that is in force in slot m: so many later plans have begun there. Their slots ascend, so it is that
-- of the last whose slot isn't above m.
abbrev pub number_in_slot : ScheduleValue → ℕ → ℕ
number_in_slot s m = count_by (λ (w : SpanValue). nat_le w.slot m) s.later

-- The number of the plan that a packet of this stamp belongs to: the last whose first slot goes out at the stamp or before, or
-- the first plan, where there is none.
abbrev pub number_for : ScheduleValue → ℕ → ℕ
number_for s stamp = count_by (λ (w : SpanValue). nat_le (slot_time s.first w.slot) stamp) s.later

abbrev pub plan_for : ScheduleValue → ℕ → PlanValue
plan_for s stamp = plan_at s (number_for s stamp)

-- the stream of a packet with this PID and stamp, as the plan that it belongs to has it
abbrev pub scheduled_stream : ScheduleValue → ℕ → ℕ → ℕ → Option PlannedStream
scheduled_stream s input pid stamp = planned_stream (plan_for s stamp).request.streams input pid
