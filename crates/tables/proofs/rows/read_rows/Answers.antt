use Rattle.std.proofs.Common.{arith, rules, refl, sym, ap, ◌∙◌}
use Rattle.std.specs.Prelude.{ℕ, map, option_map}
use Rattle.tables.specs.Rows.{has_whole_loop, rows_of}
use Rattle.tables.proofs.RowLaws.{rest_shorter, not_true}
use Rattle.tables.proofs.FillLaws.{filling_room, filling_step, filling_end, filling_count, head_long, descriptors_whole}
use Rattle.tables.proofs.rows.read_rows.Goals as goal

pub read-requires-clause-head : goal.read-requires-clause-head
read-requires-clause-head g c = head_long _ c.loop-row.rest.now c.in-Some-split_row.row.head.now (c.in-Some-split_row.ensures.whole.0 refl) c.in-Some-split_row.ensures.head ∙ c.head_length-head_length.ensures.value

pub read-requires-clause-descriptors : goal.read-requires-clause-descriptors
read-requires-clause-descriptors g c = descriptors_whole _ c.loop-row.rest.now c.in-Some-split_row.row.descriptors.now (c.in-Some-split_row.ensures.whole.0 refl) c.in-Some-split_row.ensures.descriptors

pub push_reserved-requires : goal.push_reserved-requires
push_reserved-requires g c =
    let room = filling_room _ g.R.Row.row_of c.args.bytes.now c.in-Some.count c.loop-row.rest.now c.loop-row.rows.items c.loop-row.invariant.filling (omega (arith, c.head_length-head_length.ensures.some)) (c.in-Some-split_row.ensures.whole.0 refl) in
    search rules

pub loop-row-smaller : goal.loop-row-smaller
loop-row-smaller g c =
    let shorter = rest_shorter _ c.loop-row.rest.now c.in-Some-split_row.row.rest.now (omega (arith, c.head_length-head_length.ensures.some)) (c.in-Some-split_row.ensures.whole.0 refl) c.in-Some-split_row.ensures.rest in
    omega arith

pub loop-row-preserved : goal.loop-row-preserved
loop-row-preserved g c = record {
  filling = filling_step _ g.R.Row.row_of c.args.bytes.now c.in-Some.count c.loop-row.rest.now c.in-Some-split_row.row.head.now c.in-Some-split_row.row.descriptors.now c.in-Some-split_row.row.rest.now c.loop-row.rows.items c.push_reserved.new.self.items c.in_ok-read.field-0 c.loop-row.invariant.filling (omega (arith, c.head_length-head_length.ensures.some)) (c.in-Some-split_row.ensures.whole.0 refl) c.in-Some-split_row.ensures.head c.in-Some-split_row.ensures.descriptors c.in-Some-split_row.ensures.rest c.in_ok-read.ensures c.push_reserved.ensures.items;
  room = search rules;
}

pub returns-clause-rows : goal.returns-clause-rows
returns-clause-rows g c =
    ap (λ (n : ℕ). option_map (map g.R.Row.row_of) (rows_of n 0 c.args.bytes.now)) (sym c.head_length-head_length.ensures.value)
    ∙ filling_end _ g.R.Row.row_of c.args.bytes.now c.in-Some.count c.loop-row.rest.now c.loop-row.rows.items c.loop-row.invariant.filling (not_true (has_whole_loop _ c.loop-row.rest.now) c.in_default-split_row.ensures.whole.1)

pub returns-clause-room : goal.returns-clause-room
returns-clause-room g c =
    c.loop-row.invariant.room
    ∙ filling_count _ g.R.Row.row_of c.args.bytes.now c.in-Some.count c.loop-row.rest.now c.loop-row.rows.items c.loop-row.invariant.filling (not_true (has_whole_loop _ c.loop-row.rest.now) c.in_default-split_row.ensures.whole.1)
