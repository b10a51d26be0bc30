-- What is kept beside the plans, where there is one plan and where there are more.
use Rattle.std.proofs.Common.{ℕ, ◌≡◌, ◌<◌, ◌∙◌, List, [], ◌∷◌, length, map, ap, refl, arith}
use Rattle.request.specs.declared.stream.Stream.{Stream}
use Rattle.plan.specs.Build.{PlanValue}
use Rattle.schedule.specs.Schedule.{SpanValue, schedule_of}
use Rattle.schedule.specs.Streams.{all_streams}
use Rattle.schedule.specs.Keeping.{streams_kept, places_in, places_of, places_kept}
use Rattle.schedule.proofs.SpanLaws.{span_of}

pub streams_none : (first : PlanValue) (later : List (ℕ × PlanValue)) → length later ≡ 0 → [] ≡ streams_kept first later
streams_none first [] e = refl
streams_none first (w ∷ ws) e = absurd (omega (arith, e))

pub streams_some : (first : PlanValue) (later : List (ℕ × PlanValue)) → 0 < length later → all_streams (schedule_of first later) ≡ streams_kept first later
streams_some first [] e = absurd (omega (arith, e))
streams_some first (w ∷ ws) e = refl

pub places_none : (first : PlanValue) (later : List (ℕ × PlanValue)) → length later ≡ 0 → [] ≡ places_kept first later
places_none first [] e = refl
places_none first (w ∷ ws) e = absurd (omega (arith, e))

pub places_some : (first : PlanValue) (later : List (ℕ × PlanValue)) → 0 < length later → places_of (schedule_of first later) ≡ places_kept first later
places_some first [] e = absurd (omega (arith, e))
places_some first (w ∷ ws) e = refl

-- the places of all plans' streams, as they are put together
pub places_are : (all : List Stream) (first : PlanValue) (later : List (ℕ × PlanValue)) → all ≡ all_streams (schedule_of first later)
    → places_in all first.request.streams ∷ map (λ (w : ℕ × PlanValue). places_in all w.1.request.streams) later ≡ places_of (schedule_of first later)
places_are all first later e =
    ap (λ ps. places_in all first.request.streams ∷ ps) (of_each later)
    ∙ ap (λ (xs : List Stream). map (λ (w : SpanValue). places_in xs w.plan.request.streams) (record { slot = 0; plan = first } ∷ map span_of later)) e
  where
    of_each : (ws : List (ℕ × PlanValue)) → map (λ (w : ℕ × PlanValue). places_in all w.1.request.streams) ws
        ≡ map (λ (w : SpanValue). places_in all w.plan.request.streams) (map span_of ws)
    of_each [] = refl
    of_each (w ∷ ws) = ap (λ ps. places_in all w.1.request.streams ∷ ps) (of_each ws)
