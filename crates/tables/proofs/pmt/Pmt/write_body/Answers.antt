use Rattle.std.proofs.Common.{arith, rules, ◌≡◌, ◌<◌, ◌^◌, ◌∙◌, ap, length, subst, sym}
use Rattle.std.specs.List.{All}
use Rattle.tables.specs.declared.pmt_row.PmtRow.{PmtRow}
use Rattle.tables.specs.Pmt.{PmtValue, pmt_body_bytes}
use Rattle.tables.proofs.PmtLaws.{rows_short, body_length}
use Rattle.tables.proofs.pmt.Pmt.write_body.Goals as goal

pub write_rows-requires-clause-short : goal.write_rows-requires-clause-short
write_rows-requires-clause-short c =
    let same = c.deref.ensures.value ∙ ap (λ (v : PmtValue). v.rows) c.self.view_is in
    subst (All (λ (r : PmtRow). length r.descriptors < 2 ^ 12)) (sym same) (rows_short c.args.self.now (omega (arith, c.requires.value)))

pub returns-clause-length : goal.returns-clause-length
returns-clause-length c =
    let bytes : c.write_rows.new.out.items ≡ pmt_body_bytes c.args.self.now = search rules in
    let e = ap length bytes in
    let l = body_length c.args.self.now in
    omega (arith, c.requires.value)
