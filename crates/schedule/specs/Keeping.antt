-- For the code: what a schedule keeps beside its plans. No public clause cites it.
use Rattle.std.specs.Prelude.{ℕ, List, [], ◌∷◌, map, Option}
use Rattle.request.specs.declared.stream.Stream.{Stream}
use Rattle.plan.specs.Build.{PlanValue}
use Rattle.schedule.specs.Schedule.{SpanValue, ScheduleValue, schedule_of, spans, slot_time}
use Rattle.schedule.specs.Streams.{all_streams, place_of}

-- when the slots of later plans go out
abbrev pub times_of : PlanValue → List (ℕ × PlanValue) → List ℕ
times_of first later = map (λ (w : ℕ × PlanValue). slot_time first w.0) later

-- all streams, where there is more than one plan
abbrev pub streams_kept : PlanValue → List (ℕ × PlanValue) → List Stream
streams_kept first [] = []
streams_kept first (w ∷ ws) = all_streams (schedule_of first (w ∷ ws))

-- the place of each of these streams among all
abbrev pub places_in : List Stream → List Stream → List (Option ℕ)
places_in all streams = map (λ (st : Stream). place_of all st.output_pid) streams

-- the places of each plan's streams
abbrev pub places_of : ScheduleValue → List (List (Option ℕ))
places_of s = map (λ (w : SpanValue). places_in (all_streams s) w.plan.request.streams) (spans s)

-- the same where there is more than one plan
abbrev pub places_kept : PlanValue → List (ℕ × PlanValue) → List (List (Option ℕ))
places_kept first [] = []
places_kept first (w ∷ ws) = places_of (schedule_of first (w ∷ ws))
