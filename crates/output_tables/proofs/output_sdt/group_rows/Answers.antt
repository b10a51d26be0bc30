use Rattle.std.proofs.Common.{arith, ◌≡◌, ◌+◌, ◌<◌, ◌≤◌, List, [], ◌∷◌, ◌++◌, map, sum, length, drop, sym, ap, ◌∙◌, length-append}
use Rattle.std.specs.VecDeque.{deque_len}
use Rattle.std.proofs.lemmas.List.{length-map}
use Rattle.std.proofs.lemmas.List.Elements.{All-map}
use Rattle.tables.specs.Sdt.{IsSdtRow, rows_room}
use Rattle.tables.specs.declared.sdt_row.SdtRow.{SdtRow}
use Rattle.selection.specs.declared.chosen_service.ChosenService.{ChosenService}
use Rattle.selection.specs.Chosen.{ChosenValue}
use Rattle.selection.specs.ChosenView.{chosen_value}
use Rattle.output_tables.specs.Output.{output_row, row_length, sdt_groups_behind, sdt_groups}
use Rattle.output_tables.proofs.ListLaws.{item_has, rest_split}
use Rattle.output_tables.proofs.GroupLaws.{begun, row_put, row_begins, sum_push}
use Rattle.output_tables.proofs.output_sdt.group_rows.Goals as goal
use Rattle.output_tables.proofs.output_sdt.group_rows.Goals.{then-length-room+in_ok-push_back, else-length-room}

pub loop-service-init : goal.loop-service-init
loop-service-init c =
    let rows = map output_row (map chosen_value c.args.chosen.now) in
    let some : 0 < length rows = omega (arith, length-map (map chosen_value c.args.chosen.now) output_row, length-map c.args.chosen.now chosen_value, c.requires.some) in
    let room = All-map (λ (row : SdtRow). row_length row ≤ rows_room) output_row (map chosen_value c.args.chosen.now) c.requires.room in
    record {
      groups = ap (λ (g : List (List SdtRow)). g ++ sdt_groups_behind c.new-group.result rows) c.new-groups.ensures.items ∙ ap (λ (g : List SdtRow). sdt_groups_behind g rows) c.new-group.ensures ∙ begun rows some room;
      len = let none = ap length c.new-groups.ensures.items in omega arith;
      room = ap (λ (g : List SdtRow). 1009 + sum (map row_length g)) c.new-group.ensures;
    }

pub output_row-requires : goal.output_row-requires
output_row-requires c =
    let row = item_has chosen_value (λ (v : ChosenValue). IsSdtRow v.row) c.args.chosen.now c.loop-service.service-index c.service-item.result (omega arith) c.service-item.is c.requires.rows in
    omega (arith, row.running_status)

pub overflow_sub-room : goal.overflow_sub-room
overflow_sub-room c =
    let x = c.service-item.result in
    let fits : row_length (output_row (chosen_value x)) ≤ rows_room =
    item_has chosen_value (λ (v : ChosenValue). row_length (output_row v) ≤ rows_room) c.args.chosen.now c.loop-service.service-index x (omega arith) c.service-item.is c.requires.room in
    let bytes = ap length c.bytes.ensures.value in
    elim c.if-length-room.branch [ then-length-room+in_ok-push_back w ↦ omega arith | else-length-room w ↦ omega arith ]

pub loop-service-preserved : goal.loop-service-preserved
loop-service-preserved c =
    let x = c.service-item.result in
    let i = c.loop-service.service-index in
    let chosen = c.args.chosen.now in
    let row = output_row (chosen_value x) in
    let rows = map output_row (map chosen_value (drop (i + 1) chosen)) in
    let all = sdt_groups (map output_row (map chosen_value chosen)) in
    let groups = c.loop-service.groups.items in
    let group = c.loop-service.group in
    let within : i < length chosen = omega arith in
    let fits : row_length row ≤ rows_room = item_has chosen_value (λ (v : ChosenValue). row_length (output_row v) ≤ rows_room) chosen i x within c.service-item.is c.requires.room in
    let bytes = ap length c.bytes.ensures.value in
    let split = rest_split chosen i x within c.service-item.is in
    let before : groups ++ sdt_groups_behind group (row ∷ rows) ≡ all =
    ap (λ (l : List ChosenService). groups ++ sdt_groups_behind group (map output_row (map chosen_value l))) (sym split) ∙ c.loop-service.invariant.groups in
    let now = c.if-length-room in
    let enough : 5 + length c.bytes.result.now ≤ now.room =
    elim now.branch [ then-length-room+in_ok-push_back w ↦ omega arith | else-length-room w ↦ omega arith ] in
    let total : now.room + sum (map row_length now.group) ≡ rows_room =
    elim now.branch [
      | then-length-room+in_ok-push_back w ↦ let none = ap (λ (g : List SdtRow). sum (map row_length g)) (w.group-is ∙ w.replace.ensures.after ∙ w.new.ensures) in omega arith
      | else-length-room w ↦ let same = ap (λ (g : List SdtRow). sum (map row_length g)) w.group-is in omega arith
    ] in
    let put : now.groups.items ++ sdt_groups_behind (now.group ++ row ∷ []) rows ≡ all =
    elim now.branch [
      | then-length-room+in_ok-push_back w ↦
          let full : rows_room < sum (map row_length group) + row_length row = omega arith in
          let none : now.group ≡ [] = w.group-is ∙ w.replace.ensures.after ∙ w.new.ensures in
          let more : now.groups.items ≡ groups ++ group ∷ [] = ap (λ g. g.items) w.groups-is ∙ w.in_ok-push_back.ensures.items ∙ ap (λ (g : List SdtRow). groups ++ g ∷ []) w.replace.ensures.value in
          ap (λ (g : List (List SdtRow)). g ++ sdt_groups_behind (now.group ++ row ∷ []) rows) more
          ∙ ap (λ (g : List SdtRow). (groups ++ group ∷ []) ++ sdt_groups_behind (g ++ row ∷ []) rows) none
          ∙ sym (row_begins groups group row rows full)
          ∙ before
      | else-length-room w ↦
          let free : sum (map row_length group) + row_length row ≤ rows_room = omega arith in
          ap (λ (g : List (List SdtRow)). g ++ sdt_groups_behind (now.group ++ row ∷ []) rows) (ap (λ g. g.items) w.groups-is)
          ∙ ap (λ (g : List SdtRow). groups ++ sdt_groups_behind (g ++ row ∷ []) rows) w.group-is
          ∙ sym (row_put groups group row rows free)
          ∙ before
    ] in
    let len : deque_len now.groups ≡ length now.groups.items =
    elim now.branch [
      | then-length-room+in_ok-push_back w ↦
          let items = ap length (ap (λ g. g.items) w.groups-is ∙ w.in_ok-push_back.ensures.items) ∙ length-append groups (w.replace.result ∷ []) in
          let count = ap (λ g. g.len) w.groups-is in
          omega (arith, w.in_ok-push_back.ensures.len)
      | else-length-room w ↦ let items = ap (λ g. length g.items) w.groups-is in let count = ap (λ g. g.len) w.groups-is in omega arith
    ] in
    let pushed : c.push.new.self ≡ now.group ++ row ∷ [] = c.in_ok-push.ensures ∙ ap (λ (r : SdtRow). now.group ++ r ∷ []) c.in_ok-output_row.ensures.value in
    record {
      groups = ap (λ (g : List SdtRow). now.groups.items ++ sdt_groups_behind g rows) pushed ∙ put;
      len = len;
      room = let longer = ap (λ (g : List SdtRow). sum (map row_length g)) pushed ∙ sum_push now.group row in omega arith;
    }
