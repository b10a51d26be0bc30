use Rattle.output_faults.proofs.PlanTold as told
use Rattle.output_faults.proofs.schedule_laws.no_table_fault.Goals as goal

pub returns : goal.returns
returns c = λ period out h.
    told.no_table_fault c.args.schedule.now
    (record {
      schedule = c.known.ensures.schedule;
      plans = c.known.ensures.plans;
      force = c.plans_in_force.ensures;
      pids = c.uses_of_pids.ensures;
    })
    period out h
