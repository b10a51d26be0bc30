use Rattle.std.proofs.Common.{◌≡◌, length, take, vec_capacity}
use Rattle.analyse.specs.PmtWatching.{elementary_pids}
use Rattle.analyse.proofs.newest_pmts.elementary_pids.Given as goal

abbrev pub invariant-loop-row : goal.invariant-loop-row
invariant-loop-row l = record { items : l.pids.items ≡ elementary_pids (take l.row-index l.rows); room : vec_capacity l.pids ≡ length l.rows }
