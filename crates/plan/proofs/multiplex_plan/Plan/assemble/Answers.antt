use Rattle.std.proofs.Common.{List, map, refl, subst}
use Rattle.request.specs.declared.stream.Stream.{Stream}
use Rattle.selection.specs.ChosenView.{chosen_value}
use Rattle.plan.specs.StreamPlace.{IsMapOf}
use Rattle.plan.proofs.BuildLaws.{same_plan}
use Rattle.plan.proofs.multiplex_plan.Plan.assemble.Goals as goal

pub invariant_of-result : goal.invariant_of-result
invariant_of-result c =
    let r = c.args.request.now in
    let streams = c.in_ok-streams.streams in
    let P : List Stream → Type 0 = λ xs. IsMapOf streams xs in
    let placed : IsMapOf streams r.streams = subst P c.streams.ensures.value c.in_ok-streams.ensures in
    let plan = ∣ (
      map chosen_value c.args.chosen.now,
      record {
        request = refl;
        services = c.requires.services;
        tables = c.in_ok-tables.ensures;
        rounds = c.requires.rounds;
      },
    ) ∣₁ in
    same_plan r c.in_ok-request.request c.in_ok-tables.tables c.in_ok-tables.tables c.args.rounds streams streams
    c.in_ok-request.ensures refl refl (placed, plan)
