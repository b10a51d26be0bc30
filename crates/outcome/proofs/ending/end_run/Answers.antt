use Rattle.std.proofs.Common.{length, ap, ◌∙◌}
use Rattle.schedule.specs.Schedule.{ScheduleValue}
use Rattle.schedule.specs.Streams.{all_streams}
use Rattle.outcome.proofs.ending.end_run.Goals as goal

pub end_streams-requires : goal.end_streams-requires
end_streams-requires g c = ap length c.streams.ensures ∙ ap (λ (v : ScheduleValue). length (all_streams v)) c.schedule.ensures

pub end_inputs-requires : goal.end_inputs-requires
end_inputs-requires g c = c.requires

pub returns : goal.returns
returns g c = record {
  inputs = c.in_ok-inputs.ensures;
  streams = c.in_ok-streams.ensures;
  counts = c.counts.ensures;
  faults = c.faults.ensures;
  report = c.into_report.ensures;
}
