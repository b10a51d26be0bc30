use Rattle.std.proofs.Common.{◌≡◌, ◌+◌, ◌≤◌, length, option_map}
use Rattle.tables.specs.Rows.{rows_of}
use Rattle.tables.proofs.rows.count_rows.Given as goal

abbrev pub invariant-loop-rest : goal.invariant-loop-rest
invariant-loop-rest l = record {
  count : option_map (λ rows. l.count + length rows) (rows_of l.head_length 0 l.rest) ≡ option_map length (rows_of l.head_length 0 l.bytes);
  within : l.count + length l.rest ≤ length l.bytes;
}

abbrev pub decreases-loop-rest : goal.decreases-loop-rest
decreases-loop-rest l = length l.rest
