use Rattle.std.proofs.Common.{◌∙◌}
use Rattle.analyse.specs.ToldPmts.{is_pmt_in}
use Rattle.analyse.proofs.ProgramsLaws.{came_more, parts_false}
use Rattle.analyse.proofs.PmtLaws.{newest_step}
use Rattle.analyse.proofs.pmt_watch.PmtWatch.push_all.Goals as goal

pub loop-item-preserved : goal.loop-item-preserved
loop-item-preserved c =
    let told = c.args.told.now in
    let i = c.loop-item.item-index in
    let x = c.item-item.result in
    let one = c.in_ok-one.ensures in (
      one.assembly ∙ c.loop-item.invariant.0,
      came_more is_pmt_in told i x c.loop-item.seen.came c.in_ok-one.one.came c.loop-item-test.true c.item-item.is c.loop-item.invariant.1 one.came,
      (λ same.
          let parts = parts_false c.loop-item.seen.changed c.in_ok-one.one.changed same in
          one.changed parts.1 ∙ c.loop-item.invariant.2 parts.0),
      newest_step told i x c.args.self.now.newest c.loop-item.self.newest c.push_one.new.self.newest c.loop-item-test.true c.item-item.is c.loop-item.invariant.3 one.newest,
    )
