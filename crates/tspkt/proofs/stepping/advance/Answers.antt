use Rattle.std.proofs.Common.{rules}
use Rattle.tspkt.proofs.ItemListLaws.{later_on}
use Rattle.tspkt.proofs.FramingLaws.{no_room_behind, on_err_always}
use Rattle.tspkt.proofs.stepping.advance.Goals as goal

pub returns-in_err-next-clause-full : goal.returns-in_err-next-clause-full
returns-in_err-next-clause-full g c =
    let old = g.L.ItemList.list c.args.out.now in
    let now = g.L.ItemList.list c.steps.out in
    on_err_always c.from_residual.result
    (no_room_behind c.args.stride c.args.base c.args.window.now old.told now.told c.args.mode c.steps.mode c.steps.at old.places now.places
    c.steps.invariant.goes c.in_err-next.ensures.full c.steps.invariant.later.places)

pub returns-in_err-next-clause-later : goal.returns-in_err-next-clause-later
returns-in_err-next-clause-later g c = later_on _ _ _ c.steps.invariant.later c.step.ensures.later

pub returns-clause-later : goal.returns-clause-later
returns-clause-later g c = later_on _ _ _ c.steps.invariant.later c.step.ensures.later

pub steps-preserved : goal.steps-preserved
steps-preserved g c =
    record {
      goes = search rules;
      later = later_on _ _ _ c.steps.invariant.later c.step.ensures.later;
      few = search rules;
    }
