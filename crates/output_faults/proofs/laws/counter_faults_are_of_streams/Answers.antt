use Rattle.schedule.specs.Schedule.{single}
use Rattle.output_faults.proofs.OutputFaultLaws.{counters_judged}
use Rattle.output_faults.proofs.ScheduleTold.{judged_of}
use Rattle.output_faults.proofs.PlanTold.{known_one, streams_of_one}
use Rattle.output_faults.proofs.laws.counter_faults_are_of_streams.Goals as goal

pub returns : goal.returns
returns c = λ rate period out h.
    counters_judged c.args.plan.now.request.streams rate period out
    (judged_of (single c.args.plan.now) (known_one c.args.plan.now c.known.ensures.request c.known.ensures.tables c.known.ensures.rounds) (streams_of_one c.args.plan.now c.known.ensures.request) out h)
