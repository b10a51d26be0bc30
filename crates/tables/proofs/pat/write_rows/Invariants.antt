use Rattle.std.proofs.Common.{◌≡◌, ◌*◌, take, length}
use Rattle.std.specs.List.{flat_map}
use Rattle.tables.specs.Pat.{pat_row_bytes}
use Rattle.tables.proofs.pat.write_rows.Given as goal

abbrev pub invariant-loop-row : goal.invariant-loop-row
invariant-loop-row l = record {
  bytes : l.out.items ≡ flat_map pat_row_bytes (take l.row-index l.rows);
  length : length l.out.items ≡ 4 * l.row-index;
}
