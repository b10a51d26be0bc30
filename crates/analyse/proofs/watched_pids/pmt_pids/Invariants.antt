use Rattle.std.proofs.Common.{◌≡◌, ◌<◌, ℕ, false, get_or, take}
use Rattle.analyse.specs.WatchedPids.{is_pmt_pid_of}
use Rattle.analyse.proofs.watched_pids.pmt_pids.Given as goal

abbrev pub invariant-loop-row : goal.invariant-loop-row
invariant-loop-row l = (pid : ℕ) → pid < 8192 → get_or l.set pid false ≡ is_pmt_pid_of (take l.row-index l.rows) pid
