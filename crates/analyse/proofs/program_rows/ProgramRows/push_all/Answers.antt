use Rattle.std.proofs.Common.{◌∙◌}
use Rattle.analyse.specs.ProgramsWatching.{is_pat_in}
use Rattle.analyse.proofs.ProgramsLaws.{came_more, run_more}
use Rattle.analyse.proofs.program_rows.ProgramRows.push_all.Goals as goal

pub loop-item-preserved : goal.loop-item-preserved
loop-item-preserved c =
    let told = c.args.told.now in
    let i = c.loop-item.item-index in
    let x = c.item-item.result in
    let one = c.in_ok-came.ensures in (
      one.rows ∙ c.loop-item.invariant.0,
      came_more is_pat_in told i x c.loop-item.came c.in_ok-came.field-0 c.loop-item-test.true c.item-item.is c.loop-item.invariant.1 one.came,
      run_more told i x c.args.self.now.run c.loop-item.self.run c.push_one.new.self.run c.loop-item-test.true c.item-item.is c.loop-item.invariant.2 one.run,
    )
