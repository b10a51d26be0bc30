use Rattle.output_faults.proofs.OutputFaultLaws.{sync_stands}
use Rattle.output_faults.proofs.ScheduleTold.{all_sound_of}
use Rattle.output_faults.proofs.schedule_laws.no_sync_fault.Goals as goal

pub returns : goal.returns
returns c = λ rate period out h.
    sync_stands rate period out
    (all_sound_of c.args.schedule.now
    (record {
      schedule = c.known.ensures.schedule;
      plans = c.known.ensures.plans;
      force = c.plans_in_force.ensures;
      pids = c.uses_of_pids.ensures;
    })
    out h)
