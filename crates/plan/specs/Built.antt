-- What each plan keeps (profile).
use Rattle.request.specs.Request.{IsRequest}
use Rattle.rounds.specs.Rounds.{IsRounds}
use Rattle.plan.specs.Build.{PlanValue, IsPlan}

-- its numbers are in range, each table comes in time, and its tables are those of the services that were chosen
pub record IsBuilt (p : PlanValue) : Type 0 where
  pub request : IsRequest p.request
  pub rounds : IsRounds p.rounds
  pub tables : IsPlan p
