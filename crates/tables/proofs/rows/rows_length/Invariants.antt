use Rattle.std.proofs.Common.{◌≡◌, ◌+◌, take, length, map, sum}
use Rattle.tables.proofs.rows.rows_length.Given as goal

abbrev pub invariant-loop-row : goal.invariant-loop-row
invariant-loop-row g l = l.room + sum (map (λ r. g.R.Row.head_bytes + length (g.R.Row.descriptor_bytes r)) (take l.row-index l.rows)) ≡ l.most
