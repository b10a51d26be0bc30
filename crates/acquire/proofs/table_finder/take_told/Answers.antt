use Rattle.std.proofs.Common.{◌++◌, sym, ap, subst, ◌∙◌, Some, option_to_list, filter_map, take}
use Rattle.tables.specs.OnPid.{section_in}
use Rattle.tables.specs.OnPid.{sections_in}
use Rattle.acquire.specs.Taken.{HasTaken}
use Rattle.acquire.proofs.ReadingLaws.{told_section, told_other, not_section}
use Rattle.acquire.proofs.table_finder.take_told.Goals as goal
use Rattle.acquire.proofs.table_finder.take_told.Goals.{in-Section+in_ok-take_section, in_default}

pub loop-item-preserved : goal.loop-item-preserved
loop-item-preserved g c =
    let section_of = g.T.SoughtTable.section_of in
    elim c.match-item.branch [
      | in-Section+in_ok-take_section w ↦
          told_section section_of c.args.table.now c.loop-item.table c.match-item.table c.args.told.now c.loop-item.item-index c.item-item.result w.as_slice.result.now c.loop-item-test.true
          (ap section_in (sym c.item-item.is ∙ w.in-Section.is) ∙ ap Some (sym w.as_slice.ensures.value))
          c.loop-item.invariant
          (λ sections h. subst (λ t. HasTaken t (sections ++ option_to_list (section_of w.as_slice.result.now))) (sym w.table-is) (w.in_ok-take_section.ensures sections h))
      | in_default w ↦
          told_other section_of c.args.table.now c.match-item.table c.args.told.now c.loop-item.item-index c.item-item.result c.loop-item-test.true
          (ap section_in (sym c.item-item.is) ∙ not_section c.item-item.result w.in_default.not-Section)
          (λ sections h. subst (λ t. HasTaken t (sections ++ filter_map section_of (sections_in (take c.loop-item.item-index c.args.told.now)))) (sym w.table-is) (c.loop-item.invariant sections h))
    ]
