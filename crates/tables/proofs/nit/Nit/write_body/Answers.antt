use Rattle.std.proofs.Common.{arith, ◌≡◌, ◌<◌, ◌^◌, ◌∙◌, ap, length, subst, sym}
use Rattle.std.specs.List.{All}
use Rattle.tables.specs.declared.nit_row.NitRow.{NitRow}
use Rattle.tables.specs.Nit.{NitValue, nit_body_bytes}
use Rattle.tables.proofs.NitLaws.{rows_short, body_length}
use Rattle.std.proofs.lemmas.Grind.{common_steps}
use Rattle.tables.proofs.nit.Nit.write_body.Goals as goal

pub write_rows-requires-clause-short : goal.write_rows-requires-clause-short
write_rows-requires-clause-short c =
    let same = c.deref.ensures.value ∙ ap (λ (v : NitValue). v.rows) c.self.view_is in
    subst (All (λ (r : NitRow). length r.descriptors < 2 ^ 12)) (sym same) (rows_short c.args.self.now (omega (arith, c.requires.value)))

pub returns-clause-length : goal.returns-clause-length
returns-clause-length c =
    let bytes : c.write_rows.new.out.items ≡ nit_body_bytes c.args.self.now = grind (arith, common_steps) in
    let e = ap length bytes in
    let l = body_length c.args.self.now in
    omega (arith, c.requires.value)
