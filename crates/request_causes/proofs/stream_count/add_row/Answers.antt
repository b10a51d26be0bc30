use Rattle.std.proofs.Common.{rules, ◌≡◌, true, false, List, [], ◌∷◌, ◌++◌, map, refl, ap, ◌∙◌, sym}
use Rattle.std.specs.List.{list_any}
use Rattle.request.specs.Request.{has_same_source}
use Rattle.request.specs.Collected.{with_row}
use Rattle.request.proofs.ListLaws.{list_any-map, map-append}
use Rattle.request_causes.specs.Causes.{stream_row}
use Rattle.request_causes.specs.declared.placed_row.PlacedRow.{PlacedRow}
use Rattle.request_causes.proofs.stream_count.add_row.Goals as goal

-- a row that was found adds nothing, and another one is the last
with_found : (found : List PlacedRow) (row : PlacedRow) → list_any (λ (other : PlacedRow). has_same_source (stream_row row) (stream_row other)) found ≡ true
    → map stream_row found ≡ with_row (map stream_row found) (stream_row row)
with_found found row h =
    let e : list_any (has_same_source (stream_row row)) (map stream_row found) ≡ true = list_any-map (has_same_source (stream_row row)) stream_row found ∙ h in
    rw e refl

with_new : (found : List PlacedRow) (row : PlacedRow) → list_any (λ (other : PlacedRow). has_same_source (stream_row row) (stream_row other)) found ≡ false
    → map stream_row (found ++ row ∷ []) ≡ with_row (map stream_row found) (stream_row row)
with_new found row h =
    let e : list_any (has_same_source (stream_row row)) (map stream_row found) ≡ false = list_any-map (has_same_source (stream_row row)) stream_row found ∙ h in
    map-append stream_row found (row ∷ []) ∙ rw e refl

pub returns-then-is_found : goal.returns-then-is_found
returns-then-is_found c =
    let found = c.args.found.now.items in
    let row = c.args.row.now in
    let is : list_any (λ (other : PlacedRow). has_same_source (stream_row row) (stream_row other)) found ≡ true =
    ap (list_any (λ (other : PlacedRow). has_same_source (stream_row row) (stream_row other))) (sym c.deref.ensures.value) ∙ sym c.is_found.ensures ∙ c.if-is_found.true in
    with_found found row is

pub returns : goal.returns
returns c =
    let found = c.args.found.now.items in
    let row = c.args.row.now in
    let is : list_any (λ (other : PlacedRow). has_same_source (stream_row row) (stream_row other)) found ≡ false =
    ap (list_any (λ (other : PlacedRow). has_same_source (stream_row row) (stream_row other))) (sym c.deref.ensures.value) ∙ sym c.is_found.ensures ∙ c.if-is_found.false in
    let items : c.push.new.self.items ≡ found ++ row ∷ [] = search rules in
    ap (map stream_row) items ∙ with_new found row is
