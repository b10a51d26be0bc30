use Rattle.std.proofs.Common.{rules, arith, ◌≡◌, ◌<◌, ◌++◌, List, [], ◌∷◌, map, length, get_or, ap, ◌∙◌}
use Rattle.std.proofs.lemmas.List.Elements.{All-push, All-same}
use Rattle.request.specs.Parts.{service_parts_value}
use Rattle.request.specs.Request.{row_of}
use Rattle.request.specs.declared.stream_parts.StreamParts.{StreamParts}
use Rattle.request_causes.specs.Causes.{IsRowOf, stream_row}
use Rattle.request_causes.proofs.RowLaws.{no_stream, new_row_is, rows_more}
use Rattle.request_causes.proofs.rows.add_rows.Goals as goal

pub loop-number-preserved : goal.loop-number-preserved
loop-number-preserved c =
    let s = c.args.service.now in
    let row = c.new.result in
    let rows = c.loop-number.rows.items in
    let P = IsRowOf (map service_parts_value c.args.services.now) in
    let items : c.push.new.self.items ≡ rows ++ row ∷ [] = search rules in
    let within : c.loop-number.number < length s.streams.items = omega (arith, ap length c.deref-stream-items.ensures.value) in
    let is : stream_row row ≡ row_of s.input (get_or s.streams.items c.loop-number.number no_stream) =
    c.new.ensures.row ∙ ap (λ (xs : List StreamParts). row_of s.input (get_or xs c.loop-number.number no_stream)) c.deref-stream-items.ensures.value in
    let here : P row = new_row_is c.args.services.now c.args.place c.loop-number.number s row within c.requires is c.new.ensures.service c.new.ensures.stream in
    record {
      places = λ old. All-same P c.push.new.self.items (rows ++ row ∷ []) items (All-push P rows row (c.loop-number.invariant.places old) here);
      all = ap (map stream_row) items ∙ rows_more (row_of s.input) s.streams.items c.loop-number.number rows c.args.rows.now.items row within is c.loop-number.invariant.all;
    }
