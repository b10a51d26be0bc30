use Rattle.std.proofs.Common.{arith, ◌+◌, length, ap}
use Rattle.tables.proofs.LengthLaws.{sum_within}
use Rattle.tables.proofs.rows.rows_length.Goals as goal

pub returns-in_err-checked_sub-clause-too_large : goal.returns-in_err-checked_sub-clause-too_large
returns-in_err-checked_sub-clause-too_large g c = λ _.
    let within = sum_within (λ r. g.R.Row.head_bytes + length (g.R.Row.descriptor_bytes r)) c.args.rows.now c.loop-row.row-index c.row-item.result (omega arith) c.row-item.is in
    omega (arith, within, c.in_err-checked_sub.ensures, c.head_length.ensures.value)

pub returns-in_err-room-clause-too_large : goal.returns-in_err-room-clause-too_large
returns-in_err-room-clause-too_large g c = λ _.
    let within = sum_within (λ r. g.R.Row.head_bytes + length (g.R.Row.descriptor_bytes r)) c.args.rows.now c.loop-row.row-index c.row-item.result (omega arith) c.row-item.is in
    omega (arith, within, c.in_err-room.ensures, c.head_length.ensures.value, ap length c.descriptors.ensures)
