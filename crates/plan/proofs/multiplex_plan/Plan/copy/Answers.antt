use Rattle.plan.proofs.BuildLaws.{same_plan}
use Rattle.plan.proofs.multiplex_plan.Plan.copy.Goals as goal

pub invariant_of-result : goal.invariant_of-result
invariant_of-result c =
    same_plan c.self.inside.request c.in_ok-request.request c.self.inside.tables c.in_ok-tables.tables c.self.inside.rounds c.self.inside.streams c.in_ok-streams.streams
    c.in_ok-request.ensures c.in_ok-tables.ensures c.in_ok-streams.ensures c.self.invariant
