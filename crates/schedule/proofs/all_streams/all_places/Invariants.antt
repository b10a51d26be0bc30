use Rattle.std.proofs.Common.{◌≡◌, ℕ, ◌∷◌, map, take}
use Rattle.plan.specs.Build.{PlanValue}
use Rattle.schedule.specs.Keeping.{places_in}
use Rattle.schedule.proofs.all_streams.all_places.Given as goal

abbrev pub invariant-loop-after : goal.invariant-loop-after
invariant-loop-after l =
    map (λ v. v.items) l.places.items
    ≡ places_in l.all l.first.request.streams ∷ map (λ (w : ℕ × PlanValue). places_in l.all w.1.request.streams) (take l.after-index l.later)
