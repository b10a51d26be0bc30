use Rattle.std.proofs.Common.{◌*◌, ◌≡◌, ◌++◌, drop, option_map, vec_len, vec_capacity}
use Rattle.tables.specs.Pat.{pat_rows_of}
use Rattle.tables.proofs.pat.read_rows.Given as goal

abbrev pub invariant-loop-i : goal.invariant-loop-i
invariant-loop-i l = record {
  rows : option_map (λ rest. l.rows.items ++ rest) (pat_rows_of (drop (4 * l.i) l.body)) ≡ pat_rows_of l.body;
  len : vec_len l.rows ≡ l.i;
  room : vec_capacity l.rows ≡ l.count;
}
