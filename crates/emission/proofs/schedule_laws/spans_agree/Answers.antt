use Rattle.emission.proofs.ScheduleLaws as laws
use Rattle.emission.proofs.schedule_laws.spans_agree.Goals as goal

pub returns : goal.returns
returns c = λ out h.
    laws.spans_agree c.args.schedule.now
    (record {
      schedule = c.known.ensures.schedule;
      plans = c.known.ensures.plans;
      force = c.plans_in_force.ensures;
      pids = c.uses_of_pids.ensures;
    })
    out h
