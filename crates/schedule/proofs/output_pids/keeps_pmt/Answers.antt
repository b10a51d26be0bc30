use Rattle.request.specs.Request.{service_value}
use Rattle.schedule.proofs.PidLaws.{has_pmt}
use Rattle.schedule.proofs.output_pids.keeps_pmt.Goals as goal

pub returns-else-not-has_output_pid : goal.returns-else-not-has_output_pid
returns-else-not-has_output_pid c =
    let found = has_pmt c.args.before.now (service_value c.args.service.now) c.has_pmt_of.result c.has_pmt_of.ensures in (
      λ e have. found.0 e,
      λ h. found.1 (h (c.has_output_pid.ensures.0 c.if-not-has_output_pid.false)),
    )
