use Rattle.std.proofs.Common.{arith, rules, ◌≡◌, ◌<◌, length, true, ◌∙◌, refl}
use Rattle.tables.specs.Rows.{has_whole_loop}
use Rattle.tables.proofs.RowLaws.{count_bad, count_end, count_step, rest_shorter}
use Rattle.tables.proofs.rows.count_rows.Goals as goal

pub returns-in_err-row : goal.returns-in_err-row
returns-in_err-row c =
    let some : 0 < length c.loop-rest.rest.now = search rules in
    c.from_residual.ensures ∙ count_bad c.args.head_length c.loop-rest.count c.loop-rest.rest.now _ some c.in_err-row.ensures.whole.1 c.loop-rest.invariant.count

pub loop-rest-preserved : goal.loop-rest-preserved
loop-rest-preserved c =
    let whole : has_whole_loop c.args.head_length c.loop-rest.rest.now ≡ true = c.in_ok-row.ensures.whole.0 refl in
    let shorter = rest_shorter c.args.head_length c.loop-rest.rest.now c.in_ok-row.row.rest.now (omega arith) whole c.in_ok-row.ensures.rest in
    record {
      count = count_step c.args.head_length c.loop-rest.count c.loop-rest.rest.now c.in_ok-row.row.rest.now _ (omega arith) whole c.in_ok-row.ensures.rest c.loop-rest.invariant.count;
      within = omega arith;
    }

pub returns : goal.returns
returns c =
    let none : length c.loop-rest.rest.now ≡ 0 = search rules in
    count_end c.args.head_length c.loop-rest.count c.loop-rest.rest.now _ none c.loop-rest.invariant.count
