use Rattle.std.proofs.Common.{◌≡◌, ◌<◌, ℕ, false, get_or, take}
use Rattle.std.specs.List.{list_any}
use Rattle.tables.specs.declared.pat_row.PatRow.{PatRow}
use Rattle.analyse.specs.WatchedPids.{is_listed, pids_of_row}
use Rattle.analyse.proofs.watched_pids.referred_pids.Given as goal

abbrev pub invariant-loop-row : goal.invariant-loop-row
invariant-loop-row l =
    (pid : ℕ) → pid < 8192 → get_or l.set pid false ≡ list_any (λ (r : PatRow). is_listed pid (pids_of_row l.pmts l.rows r.program_number)) (take l.row-index l.rows)
