use Rattle.std.proofs.Common.{◌≡◌, ◌<◌, None, length, arith}
use Rattle.std.proofs.lemmas.List.Edits.{map_over_more}
use Rattle.acquire.proofs.pmt_finders.forget_pmts.Goals as goal

pub loop-pmt-preserved : goal.loop-pmt-preserved
loop-pmt-preserved c =
    let items = c.deref_mut-pmt-items.result.now in
    let i = c.loop-pmt.pmt-index in
    let within : i < length items = omega arith in
    map_over_more (λ pmt. None) items c.loop-pmt.pmt-items i c.pmt-item.result within c.loop-pmt.invariant c.pmt-item.is
