use Rattle.schedule.specs.Streams.{all_streams}
use Rattle.output_faults.proofs.OutputFaultLaws.{taken_judged}
use Rattle.output_faults.proofs.ScheduleTold.{judged_of}
use Rattle.output_faults.proofs.schedule_laws.counter_faults_are_as_taken.Goals as goal

pub returns : goal.returns
returns c = λ rate period out taken h same.
    taken_judged (all_streams c.args.schedule.now) rate period out taken
    (judged_of c.args.schedule.now
    (record {
      schedule = c.known.ensures.schedule;
      plans = c.known.ensures.plans;
      force = c.plans_in_force.ensures;
      pids = c.uses_of_pids.ensures;
    })
    c.streams_of_plans.ensures out h) same
