use Rattle.schedule.specs.Schedule.{single}
use Rattle.output_faults.proofs.OutputFaultLaws.{sync_stands}
use Rattle.output_faults.proofs.ScheduleTold.{all_sound_of}
use Rattle.output_faults.proofs.PlanTold.{known_one}
use Rattle.output_faults.proofs.laws.no_sync_fault.Goals as goal

pub returns : goal.returns
returns c = λ rate period out h.
    sync_stands rate period out (all_sound_of (single c.args.plan.now) (known_one c.args.plan.now c.known.ensures.request c.known.ensures.tables c.known.ensures.rounds) out h)
