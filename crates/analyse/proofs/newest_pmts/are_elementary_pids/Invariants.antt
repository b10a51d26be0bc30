use Rattle.std.proofs.Common.{◌≡◌, take}
use Rattle.analyse.specs.PmtWatching.{elementary_pids}
use Rattle.analyse.proofs.newest_pmts.are_elementary_pids.Given as goal

abbrev pub invariant-loop-place : goal.invariant-loop-place
invariant-loop-place l = take l.place l.pids ≡ elementary_pids (take l.place l.rows)
