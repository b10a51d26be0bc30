use Rattle.std.proofs.Common.{◌≡◌, length, vec_capacity}
use Rattle.tables.proofs.FillLaws.{IsFilling}
use Rattle.tables.proofs.rows.read_rows.Given as goal

abbrev pub invariant-loop-row : goal.invariant-loop-row
invariant-loop-row g l = record {
  filling : IsFilling l.head_length g.R.Row.row_of l.bytes l.count l.rest l.rows.items;
  room : vec_capacity l.rows ≡ l.count;
}

abbrev pub decreases-loop-row : goal.decreases-loop-row
decreases-loop-row g l = length l.rest
