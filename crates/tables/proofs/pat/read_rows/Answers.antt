use Rattle.std.proofs.Common.{arith, ◌≡◌, ◌+◌, ◌-◌, ◌*◌, inr, refl, ℕ, ap, ◌∙◌, take, drop}
use Rattle.tables.specs.Pat.{pat_row_of}
use Rattle.tables.proofs.PatLaws.{not_rows, rows_step}
use Rattle.tables.proofs.pat.read_rows.Goals as goal

pub returns-then-body-ne0-clause-fault : goal.returns-then-body-ne0-clause-fault
returns-then-body-ne0-clause-fault c = inr (refl, not_rows c.args.body.now c.if-body-ne0.true)

pub loop-i-preserved : goal.loop-i-preserved
loop-i-preserved c =
    let i = c.loop-i.i in
    let body = c.args.body.now in
    let four : 4 * i + 4 - 4 * i ≡ 4 = omega arith in
    record {
      rows = rows_step body (4 * i) (4 * (i + 1)) c.loop-i.rows.items _ c.read_row.result (omega arith) (omega arith) (c.read_row.ensures ∙ ap (λ (n : ℕ). pat_row_of (take n (drop (4 * i) body))) four) c.push_reserved.ensures.items c.loop-i.invariant.rows;
      len = omega arith;
      room = omega arith;
    }
