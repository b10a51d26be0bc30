use Rattle.std.proofs.Common.{◌≡◌, sym, ap, ◌∙◌, arith, List, ◌++◌}
use Rattle.tables.specs.declared.pat_row.PatRow.{PatRow}
use Rattle.tables.specs.InForce.{in_force}
use Rattle.analyse.specs.ProgramsWatching.{programs_of_section}
use Rattle.analyse.proofs.ProgramsLaws.{rows_more, rows_all}
use Rattle.analyse.proofs.program_rows.ProgramRows.rows_in_force.Goals as goal

pub loop-number-preserved : goal.loop-number-preserved
loop-number-preserved c sections s =
    c.in_ok-push_section.ensures sections s
    ∙ ap (λ (l : List PatRow). l ++ programs_of_section (in_force sections c.loop-number.number)) (c.loop-number.invariant sections s)
    ∙ sym (rows_more sections c.loop-number.number)

pub returns : goal.returns
returns c sections s =
    let all : c.loop-number.number ≡ 256 = omega arith in
    c.loop-number.invariant sections s ∙ rows_all sections c.loop-number.number all
