use Rattle.std.proofs.Common.{arith, ◌+◌, length}
use Rattle.tables.specs.declared.sdt_row.SdtRow.{SdtRow}
use Rattle.tables.proofs.LengthLaws.{each_within}
use Rattle.tables.proofs.sdt.write_body.Goals as goal

pub write_rows-requires-clause-short : goal.write_rows-requires-clause-short
write_rows-requires-clause-short c =
    let each = each_within (λ (r : SdtRow). 5 + length r.descriptors) 1009 c.args.rows.now (omega (arith, c.requires.length, c.requires.short)) in
    λ k d l. let e = each k d l in omega arith
