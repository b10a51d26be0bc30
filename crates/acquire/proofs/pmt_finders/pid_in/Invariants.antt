use Rattle.std.proofs.Common.{◌≡◌, drop}
use Rattle.acquire.specs.Findings.{pmt_pid_of}
use Rattle.acquire.proofs.pmt_finders.pid_in.Given as goal

abbrev pub invariant-loop-row : goal.invariant-loop-row
invariant-loop-row l = pmt_pid_of l.program (drop l.row-index l.rows) ≡ pmt_pid_of l.program l.rows
