use Rattle.std.proofs.Common.{arith, ◌≡◌, ◌+◌, ◌-◌, ◌++◌, ◌∷◌, [], sym, ap, ◌∙◌, option_map, Some, Vec}
use Rattle.std.proofs.lemmas.List.{append-nil}
use Rattle.tables.specs.Kept.{tables_of, all_kept}
use Rattle.tables.proofs.InForceLaws.{tables_more, tables_missing, table_kept}
use Rattle.tables.proofs.table_run.TableRun.into_complete.Goals as goal
use Rattle.tables.proofs.table_run.TableRun.into_complete.Goals.{else-loop-number-test, then-loop-number-test+in-Some-take_section+else-number-last}

pub returns-in-None-clause-complete : goal.returns-in-None-clause-complete
returns-in-None-clause-complete g c sections stands =
    sym (tables_missing c.loop-number.sections.items c.loop-number.tables.items c.loop-number.number _ c.in-None.ensures.taken (omega arith))
    ∙ c.loop-number.invariant.found
    ∙ ap (option_map tables_of) (table_kept c.args.self sections stands)

pub loop-number-preserved : goal.loop-number-preserved
loop-number-preserved g c =
    let number = c.loop-number.number in
    let last = c.newest.inside.header.last_section_number in
    let left : last + 1 - (number + 1) ≡ last + 1 - number - 1 = omega arith in
    let more = tables_more c.loop-number.sections.items c.take_section.new.sections.items c.loop-number.tables.items number (last + 1 - number) c.in-Some-take_section.table c.in-Some-take_section.ensures.taken (omega arith) c.in-Some-take_section.ensures.others in
    record {
      found =
          ap (λ l. option_map (λ rest. l ++ tables_of rest) (all_kept c.take_section.new.sections.items (number + 1) (last + 1 - (number + 1)))) c.push_reserved.ensures.items
          ∙ ap (λ n. option_map (λ rest. (c.loop-number.tables.items ++ c.in-Some-take_section.table ∷ []) ++ tables_of rest) (all_kept c.take_section.new.sections.items (number + 1) n)) left
          ∙ more
          ∙ c.loop-number.invariant.found;
      count = omega (arith, c.push_reserved.ensures.len, c.loop-number.invariant.count);
      room = c.push_reserved.ensures.capacity ∙ c.loop-number.invariant.room;
    }

pub returns-clause-complete : goal.returns-clause-complete
returns-clause-complete g c sections stands =
    let number = c.loop-number.number in
    let last = c.newest.inside.header.last_section_number in
    elim c.loop-number-test.branch [
      | else-loop-number-test w ↦ absurd (omega arith)
      | then-loop-number-test+in-Some-take_section+else-number-last w ↦
          let told = c.loop-number.tables.items in
          let table = w.in-Some-take_section.table in
          let left : 0 ≡ last + 1 - number - 1 = omega arith in
          let more = tables_more c.loop-number.sections.items w.take_section.new.sections.items told number (last + 1 - number) table w.in-Some-take_section.ensures.taken (omega arith) w.in-Some-take_section.ensures.others in
          ap (λ (v : Vec _ _). Some v.items) w.tables-is
          ∙ ap Some (w.push_reserved.ensures.items ∙ sym (append-nil (told ++ table ∷ [])))
          ∙ ap (λ n. option_map (λ rest. (told ++ table ∷ []) ++ tables_of rest) (all_kept w.take_section.new.sections.items (number + 1) n)) left
          ∙ more
          ∙ c.loop-number.invariant.found
          ∙ ap (option_map tables_of) (table_kept c.args.self sections stands)
    ]
