use Rattle.std.proofs.Common.{◌≡◌, ◌+◌, ◌-◌, ◌≤◌, ◌++◌, option_map, vec_len, vec_capacity}
use Rattle.tables.specs.Kept.{all_kept, kept_table, tables_of}
use Rattle.tables.proofs.table_run.TableRun.into_complete.Given as goal

abbrev pub invariant-loop-number : goal.invariant-loop-number
invariant-loop-number g l = record {
  found : option_map (λ rest. l.tables.items ++ tables_of rest) (all_kept l.sections.items l.number (l.last + 1 - l.number)) ≡ option_map tables_of (kept_table l.fn.self);
  count : vec_len l.tables ≤ l.number;
  room : vec_capacity l.tables ≡ l.last + 1;
}
