use Rattle.std.proofs.Common.{arith, ◌≡◌, ℕ, ◌+◌, ◌<◌, ◌≤◌, List, [], ◌∷◌, map, length, drop, sym, ap, ◌∙◌, add_assoc}
use Rattle.std.proofs.lemmas.List.{length-map, drop_all}
use Rattle.selection.specs.declared.chosen_service.ChosenService.{ChosenService}
use Rattle.selection.specs.Chosen.{ChosenValue}
use Rattle.selection.specs.ChosenView.{chosen_value}
use Rattle.tables.specs.Sdt.{rows_room}
use Rattle.output_tables.specs.Output.{output_row, row_length, packets_for}
use Rattle.output_tables.proofs.ListLaws.{item_has, rest_split}
use Rattle.output_tables.proofs.SdtCountLaws.{count_behind, row_counts, row_counts_anew, none_counts, sdt_counted}
use Rattle.output_tables.proofs.counts.sdt_count.Goals as goal
use Rattle.output_tables.proofs.counts.sdt_count.Goals.{then-used-length-gt-MAX_SDT_ROWS_LENGTH, else-used-length-gt-MAX_SDT_ROWS_LENGTH}

pub loop-service-preserved : goal.loop-service-preserved
loop-service-preserved c =
    let x = c.service-item.result in
    let i = c.loop-service.service-index in
    let chosen = c.args.chosen.now in
    let row = output_row (chosen_value x) in
    let rows = map output_row (map chosen_value (drop (i + 1) chosen)) in
    let within : i < length chosen = omega arith in
    let fits : row_length row ≤ rows_room = item_has chosen_value (λ (v : ChosenValue). row_length (output_row v) ≤ rows_room) chosen i x within c.service-item.is c.requires.room in
    let bytes = ap length c.bytes.ensures.value in
    let split = rest_split chosen i x within c.service-item.is in
    let before : c.loop-service.packets + count_behind c.loop-service.used (row ∷ rows) ≡ count_behind 0 (map output_row (map chosen_value chosen)) =
    ap (λ (l : List ChosenService). c.loop-service.packets + count_behind c.loop-service.used (map output_row (map chosen_value l))) (sym split) ∙ c.loop-service.invariant.counted in
    let now = c.if-used-length-gt-MAX_SDT_ROWS_LENGTH in
    elim now.branch [
      | then-used-length-gt-MAX_SDT_ROWS_LENGTH w ↦
          let anew = row_counts_anew c.loop-service.used row rows (omega arith) in
          let first : now.used + (5 + length c.bytes.result.now) ≡ row_length row = omega arith in
          let taken : now.packets ≡ c.loop-service.packets + packets_for (12 + c.loop-service.used) = w.packets-is ∙ ap (λ (n : ℕ). c.loop-service.packets + n) w.packets_for-packets.ensures.value in
          let counted : now.packets + count_behind (row_length row) rows ≡ c.loop-service.packets + count_behind c.loop-service.used (row ∷ rows) =
          ap (λ (n : ℕ). n + count_behind (row_length row) rows) taken ∙ add_assoc c.loop-service.packets (packets_for (12 + c.loop-service.used)) (count_behind (row_length row) rows) ∙ ap (λ (n : ℕ). c.loop-service.packets + n) (sym anew) in
          record {
            counted = ap (λ (n : ℕ). now.packets + count_behind n rows) first ∙ counted ∙ before;
            used = omega arith;
            few = omega (arith, w.packets_for-packets.ensures.few);
          }
      | else-used-length-gt-MAX_SDT_ROWS_LENGTH w ↦
          let same = row_counts c.loop-service.used row rows (omega arith) in
          let longer : now.used + (5 + length c.bytes.result.now) ≡ c.loop-service.used + row_length row = omega arith in
          record {
            counted = ap (λ (n : ℕ). now.packets + count_behind n rows) longer ∙ ap (λ (n : ℕ). n + count_behind (c.loop-service.used + row_length row) rows) w.packets-is ∙ ap (λ (n : ℕ). c.loop-service.packets + n) (sym same) ∙ before;
            used = omega arith;
            few = omega arith;
          }
    ]

pub returns-clause-value : goal.returns-clause-value
returns-clause-value c =
    let chosen = c.args.chosen.now in
    let used = c.loop-service.used in
    let rest : drop c.loop-service.service-index chosen ≡ [] = drop_all c.loop-service.service-index chosen (omega arith) in
    let some : 0 < length (map output_row (map chosen_value chosen)) = omega (arith, length-map (map chosen_value chosen) output_row, length-map chosen chosen_value, c.requires.some) in
    ap (λ (n : ℕ). c.loop-service.packets + n) (c.packets_for.ensures.value ∙ sym (none_counts used))
    ∙ ap (λ (l : List ChosenService). c.loop-service.packets + count_behind used (map output_row (map chosen_value l))) (sym rest)
    ∙ c.loop-service.invariant.counted
    ∙ sdt_counted (map chosen_value chosen) some c.requires.room
