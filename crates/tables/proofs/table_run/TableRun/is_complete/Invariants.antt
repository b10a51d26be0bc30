use Rattle.std.proofs.Common.{◌≡◌, ◌+◌, ◌-◌, is_some}
use Rattle.tables.specs.Kept.{all_kept, kept_table}
use Rattle.tables.proofs.table_run.TableRun.is_complete.Given as goal

abbrev pub invariant-loop-number : goal.invariant-loop-number
invariant-loop-number g l =
    is_some (kept_table l.self) ≡ is_some (all_kept l.self l.number (l.number-end + 1 - l.number))
