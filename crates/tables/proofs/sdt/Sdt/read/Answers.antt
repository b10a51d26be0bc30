use Rattle.std.proofs.Common.{arith, rules, ◌≡◌, ◌-◌, ℕ, List, length, take, drop, ap}
use Rattle.std.proofs.lemmas.List.{take_rest}
use Rattle.tables.specs.Sdt.{sdt_row_of, IsSdtRow}
use Rattle.tables.proofs.RowLaws.{rows_all}
use Rattle.tables.proofs.SdtLaws.{row_fits, sdt_read}
use Rattle.tables.proofs.sdt.Sdt.read.Goals as goal

pub invariant_of-result : goal.invariant_of-result
invariant_of-result c = (c.in_ok-header.ensures.whole, search rules, rows_all 5 sdt_row_of IsSdtRow row_fits _ c.in_ok-rows.rows.items c.in_ok-rows.ensures.rows)

pub returns-clause-value : goal.returns-clause-value
returns-clause-value c =
    let b = c.args.bytes.now in
    let size : length b - 4 - 8 ≡ length b - 12 = omega arith in
    let body : List ℕ = take (length b - 4 - 8) (drop 8 b) in
    sdt_read b body _ c.in_ok-header.header c.read_original_network_id.result c.in_ok-rows.rows.items c.in_ok-header.ensures.exact (ap (λ (n : ℕ). take n (drop 8 b)) size) c.if-body-lt-BODY_HEAD_LENGTH.false (take_rest body 3) c.read_original_network_id.ensures c.in_ok-rows.ensures.rows
