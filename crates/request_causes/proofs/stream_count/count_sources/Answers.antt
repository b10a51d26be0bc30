use Rattle.std.proofs.Common.{arith, ◌≡◌, List, [], length, map, ap, ◌∙◌, sym}
use Rattle.std.proofs.lemmas.List.{at_drop_all, length-map}
use Rattle.request.specs.Collected.{with_rows}
use Rattle.request.proofs.StreamLaws.{with_rows_all}
use Rattle.request_causes.specs.Causes.{stream_row}
use Rattle.request_causes.specs.declared.placed_row.PlacedRow.{PlacedRow}
use Rattle.request_causes.proofs.stream_count.count_sources.Goals as goal

pub returns : goal.returns
unfolding with_rows
returns c =
    let rows = c.args.rows.now in
    let found = c.loop-row.found.items in
    let all : map stream_row found ≡ with_rows [] (map stream_row rows) =
    sym (at_drop_all (λ (xs : List PlacedRow). with_rows (map stream_row found) (map stream_row xs)) rows c.loop-row.row-index c.loop-row-test.false) ∙ c.loop-row.invariant in
    let count : c.len.result ≡ length found = omega arith in
    count ∙ sym (length-map found stream_row) ∙ ap length (all ∙ with_rows_all (map stream_row rows))
