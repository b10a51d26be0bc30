use Rattle.std.proofs.Common.{arith, ◌≡◌, ◌+◌, ◌<◌, List, length, get_or, ap, ◌∙◌}
use Rattle.tables.specs.declared.pmt_row.PmtRow.{PmtRow}
use Rattle.tables.proofs.LengthLaws.{sum_within}
use Rattle.output_tables.proofs.too_large.pmt_room.Goals as goal

pub returns-in_err-checked_sub-clause-too_large : goal.returns-in_err-checked_sub-clause-too_large
returns-in_err-checked_sub-clause-too_large c = λ _.
    let rows = c.args.pmt.now.rows in
    let i = c.loop-row.row-index in
    let r = c.row-item.result in
    let is : r ≡ get_or rows i r = c.row-item.is ∙ ap (λ (l : List PmtRow). get_or l i r) c.loop-row.invariant.rows in
    let in' : i < length rows = let e = ap length c.loop-row.invariant.rows in omega arith in
    let within = sum_within (λ (x : PmtRow). 5 + length x.descriptors) rows i r in' is in
    omega (arith, c.in_err-checked_sub.ensures)

pub returns-in_err-room-2-clause-too_large : goal.returns-in_err-room-2-clause-too_large
returns-in_err-room-2-clause-too_large c = λ _.
    let rows = c.args.pmt.now.rows in
    let i = c.loop-row.row-index in
    let r = c.row-item.result in
    let is : r ≡ get_or rows i r = c.row-item.is ∙ ap (λ (l : List PmtRow). get_or l i r) c.loop-row.invariant.rows in
    let in' : i < length rows = let e = ap length c.loop-row.invariant.rows in omega arith in
    let within = sum_within (λ (x : PmtRow). 5 + length x.descriptors) rows i r in' is in
    omega (arith, c.in_err-room-2.ensures, ap length c.bytes.ensures.value)
