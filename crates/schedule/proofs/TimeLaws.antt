-- The times of switches, as the code keeps them.
use Rattle.std.proofs.Common.{ℕ, ◌≡◌, ◌+◌, cond, List, [], ◌∷◌, map, Option, None, Some, ap, refl, sym, ◌∙◌}
use Rattle.std.specs.Prelude.{nat_le, count_by, slice_get, option_map}
use Rattle.std.proofs.lemmas.List.Sums.{sum_by-cons}
use Rattle.std.proofs.lemmas.Option.{slice_get-map}
use Rattle.plan.specs.Build.{PlanValue}
use Rattle.schedule.specs.Schedule.{SpanValue, schedule_of, slot_time, number_for}
use Rattle.schedule.specs.Keeping.{times_of}
use Rattle.schedule.proofs.SpanLaws.{span_of}

same_time : (first : PlanValue) (o : Option (ℕ × PlanValue))
    → option_map (λ (w : ℕ × PlanValue). slot_time first w.0) o ≡ option_map (λ (w : SpanValue). slot_time first w.slot) (option_map span_of o)
same_time first None = refl
same_time first (Some w) = refl

-- that of one switch
pub time_read : (first : PlanValue) (later : List (ℕ × PlanValue)) (index : ℕ)
    → slice_get (times_of first later) index ≡ option_map (λ (w : SpanValue). slot_time first w.slot) (slice_get (schedule_of first later).later index)
time_read first later index =
    slice_get-map (λ (w : ℕ × PlanValue). slot_time first w.0) later index ∙ same_time first (slice_get later index)
    ∙ ap (λ o. option_map (λ (w : SpanValue). slot_time first w.slot) o) (sym (slice_get-map span_of later index))

-- how many come at a stamp or before
pub counted : (first : PlanValue) (later : List (ℕ × PlanValue)) (stamp : ℕ)
    → count_by (λ t. nat_le t stamp) (times_of first later) ≡ number_for (schedule_of first later) stamp
counted first [] stamp = refl
counted first (w ∷ later) stamp =
    sum_by-cons (λ t. cond (nat_le t stamp) 1 0) (slot_time first w.0) (times_of first later)
    ∙ ap (λ n. cond (nat_le (slot_time first w.0) stamp) 1 0 + n) (counted first later stamp)
    ∙ sym (sum_by-cons (λ (v : SpanValue). cond (nat_le (slot_time first v.slot) stamp) 1 0) (span_of w) (map span_of later))
