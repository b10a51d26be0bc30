use Rattle.std.proofs.Common.{rules, ◌≡◌, map, Some, ap, ◌∙◌}
use Rattle.acquire.specs.Seen.{findings_of}
use Rattle.request.specs.declared.plan_fault.PlanFault.TheVariants.{Memory}
use Rattle.selection.specs.ChosenView.{chosen_value}
use Rattle.plan.proofs.BuildLaws.{choice_has_memory, chosen_has_memory}
use Rattle.plan.proofs.multiplex_plan.Plan.build.Goals as goal

pub returns-in_err-chosen-clause-memory : goal.returns-in_err-chosen-clause-memory
returns-in_err-chosen-clause-memory c = λ is_memory.
    let memory : c.in_err-chosen.field-0.0 ≡ Memory = search rules in
    absurd (choice_has_memory c.args.request.now (map findings_of c.args.found.now) (c.in_err-chosen.ensures.fault ∙ ap Some memory))

pub returns-in_err-rounds-clause-memory : goal.returns-in_err-rounds-clause-memory
returns-in_err-rounds-clause-memory c = λ is_memory.
    let memory : c.in_err-rounds.field-0.0 ≡ Memory = search rules in
    absurd (chosen_has_memory c.args.request.now (map chosen_value c.as_slice.result.now) (c.in_err-rounds.ensures.fault ∙ ap Some memory))
