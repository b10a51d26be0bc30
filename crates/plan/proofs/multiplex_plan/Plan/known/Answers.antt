use Rattle.std.proofs.Common.{subst}
use Rattle.plan.specs.Build.{PlanValue}
use Rattle.plan.specs.Built.{IsBuilt}
use Rattle.plan.proofs.multiplex_plan.Plan.known.Goals as goal

pub returns : goal.returns
returns c =
    let P : PlanValue → Type 0 = IsBuilt in
    subst P c.self.view_is (record { request = c.known.ensures; rounds = c.known-2.ensures.rounds; tables = c.self.invariant.1 })
