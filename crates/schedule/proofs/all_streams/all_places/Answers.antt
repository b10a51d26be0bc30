use Rattle.std.proofs.Common.{◌∙◌, ℕ, List, ◌∷◌, map, ap}
use Rattle.std.proofs.lemmas.List.{take_all}
use Rattle.plan.specs.Build.{PlanValue}
use Rattle.schedule.specs.Keeping.{places_in}
use Rattle.schedule.proofs.KeptLaws.{places_are}
use Rattle.schedule.proofs.all_streams.all_places.Goals as goal

pub returns : goal.returns
returns c =
    let all = c.args.all.now in
    let first = c.args.first.now in
    let later = c.args.later.now in
    c.loop-after.invariant
    ∙ ap (λ (ws : List (ℕ × PlanValue)). places_in all first.request.streams ∷ map (λ (w : ℕ × PlanValue). places_in all w.1.request.streams) ws)
    (take_all c.loop-after.after-index later c.loop-after-test.false)
    ∙ places_are all first later c.requires
