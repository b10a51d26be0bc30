use Rattle.std.proofs.Common.{arith, ◌≡◌, ◌-◌, ◌<◌, ◌≤◌, List, ◌++◌, ap, ◌∙◌, map, length}
use Rattle.std.proofs.lemmas.List.{length-map}
use Rattle.tables.specs.Sdt.{SdtValue}
use Rattle.tables.specs.declared.sdt_row.SdtRow.{SdtRow}
use Rattle.selection.specs.Chosen.{ChosenValue}
use Rattle.selection.specs.ChosenView.{chosen_value}
use Rattle.output_tables.specs.Output.{output_row, sdt_groups, numbered_sections}
use Rattle.selection.specs.Chosen.{AreServicesOf}
use Rattle.request.specs.Request.{RequestValue, IsRequest}
use Rattle.output_tables.proofs.OutputLaws.{count_of}
use Rattle.output_tables.proofs.GroupLaws.{groups_few, groups_some}
use Rattle.output_tables.proofs.output_sdt.output_sdt.Goals as goal

-- from 1 to 16 sections
section_count : (r : RequestValue) (chosen : List ChosenValue) → IsRequest r → AreServicesOf r chosen → (0 < length (sdt_groups (map output_row chosen))) × (length (sdt_groups (map output_row chosen)) ≤ 16)
section_count r chosen h e =
    let rows : length (map output_row chosen) ≡ length r.services = length-map chosen output_row ∙ count_of r chosen e in
    (groups_some (map output_row chosen) (omega (arith, h.service_count)), let few = groups_few (map output_row chosen) in omega (arith, h.service_count))

pub group_rows-requires-clause-some : goal.group_rows-requires-clause-some
group_rows-requires-clause-some c =
    let all = count_of c.args.request.now (map chosen_value c.args.chosen.now) c.requires.services in
    let same = length-map c.args.chosen.now chosen_value in
    omega (arith, c.requires.request.service_count)

pub overflow_sub-last : goal.overflow_sub-last
overflow_sub-last c =
    let count = section_count c.args.request.now (map chosen_value c.args.chosen.now) c.requires.request c.requires.services in
    let groups = ap length c.in_ok-groups.ensures.rows in
    omega (arith, c.in_ok-groups.ensures.len)

pub overflow_cast-last : goal.overflow_cast-last
overflow_cast-last c =
    let count = section_count c.args.request.now (map chosen_value c.args.chosen.now) c.requires.request c.requires.services in
    let groups = ap length c.in_ok-groups.ensures.rows in
    omega (arith, c.in_ok-groups.ensures.len)

pub loop-group-init : goal.loop-group-init
loop-group-init c =
    let r = c.args.request.now in
    let chosen = map chosen_value c.args.chosen.now in
    let groups = sdt_groups (map output_row chosen) in
    let count = section_count r chosen c.requires.request c.requires.services in
    let same = c.in_ok-groups.ensures.rows in
    let len = ap length same in
    let last : c.len.result - 1 ≡ length groups - 1 = omega (arith, c.in_ok-groups.ensures.len) in
    let none = c.in_ok-sections.ensures.items in
    let zero = ap length none in
    record {
      sections = ap (λ (s : List SdtValue). s ++ numbered_sections r (c.len.result - 1) (length s) c.in_ok-groups.groups.items) none
          ∙ ap (λ (g : List (List SdtRow)). numbered_sections r (c.len.result - 1) 0 g) same
          ∙ ap (λ n. numbered_sections r n 0 groups) last;
      total = omega (arith, c.in_ok-groups.ensures.len);
      len = omega (arith, c.in_ok-sections.ensures.len);
      room = omega (arith, c.in_ok-sections.ensures.exact, c.in_ok-groups.ensures.len);
    }

pub overflow_cast-number : goal.overflow_cast-number
overflow_cast-number c =
    let count = section_count c.args.request.now (map chosen_value c.args.chosen.now) c.requires.request c.requires.services in
    let groups = ap length c.in_ok-groups.ensures.rows in
    omega (arith, c.in_ok-groups.ensures.len)
