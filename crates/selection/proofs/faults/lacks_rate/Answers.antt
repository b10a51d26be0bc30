use Rattle.std.proofs.Common.{rules}
use Rattle.selection.proofs.FaultLaws.{lacks_rate_by}
use Rattle.selection.proofs.faults.lacks_rate.Goals as goal

pub returns-then-has_unnamed_row : goal.returns-then-has_unnamed_row
returns-then-has_unnamed_row c = rw (lacks_rate_by c.args.streams.now c.args.numbers.now c.args.pmt.now) (search rules)

pub returns-then-pcr_pid-ne-NO_PCR_PID : goal.returns-then-pcr_pid-ne-NO_PCR_PID
returns-then-pcr_pid-ne-NO_PCR_PID c = rw (lacks_rate_by c.args.streams.now c.args.numbers.now c.args.pmt.now) (search rules)

pub returns-else-pcr_pid-ne-NO_PCR_PID : goal.returns-else-pcr_pid-ne-NO_PCR_PID
returns-else-pcr_pid-ne-NO_PCR_PID c = rw (lacks_rate_by c.args.streams.now c.args.numbers.now c.args.pmt.now) (search rules)
