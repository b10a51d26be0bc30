use Rattle.std.proofs.Common.{false, true, sym, refl, ◌∙◌}
use Rattle.schedule.proofs.PidLaws.{has_pmt_pid, among}
use Rattle.schedule.proofs.output_pids.has_output_pid.Goals as goal

pub returns-then-has_stream_on : goal.returns-then-has_stream_on
returns-then-has_stream_on c =
    rw c.if-has_stream_on.true
    (among c.args.request.now c.args.pid true (has_pmt_pid c.args.request.now c.args.pid) (sym c.if-has_stream_on.true ∙ c.has_stream_on.ensures) refl)

pub returns-else-has_stream_on : goal.returns-else-has_stream_on
returns-else-has_stream_on c =
    among c.args.request.now c.args.pid false c.has_pmt_on.result (sym c.if-has_stream_on.false ∙ c.has_stream_on.ensures) c.has_pmt_on.ensures
