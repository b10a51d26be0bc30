use Rattle.schedule.proofs.output_pids.keeps_stream.Goals as goal

pub returns-else-not-has_output_pid : goal.returns-else-not-has_output_pid
returns-else-not-has_output_pid c = (
  λ e have. c.has_stream.ensures.0 e,
  λ h. c.has_stream.ensures.1 (h (c.has_output_pid.ensures.0 c.if-not-has_output_pid.false)),
)
