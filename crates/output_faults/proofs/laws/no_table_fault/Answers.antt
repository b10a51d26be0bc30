use Rattle.schedule.specs.Schedule.{single}
use Rattle.output_faults.proofs.PlanTold as told
use Rattle.output_faults.proofs.PlanTold.{known_one}
use Rattle.output_faults.proofs.laws.no_table_fault.Goals as goal

pub returns : goal.returns
returns c = λ period out h.
    told.no_table_fault (single c.args.plan.now) (known_one c.args.plan.now c.known.ensures.request c.known.ensures.tables c.known.ensures.rounds) period out h
