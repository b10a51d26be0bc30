use Rattle.std.proofs.Common.{◌≡◌, ◌<◌, sym, ap, ◌∙◌, length, slice_set, arith}
use Rattle.std.proofs.lemmas.List.Edits.{map_over_more}
use Rattle.rate_meter.specs.Meter.{clock_behind}
use Rattle.rate_meter.proofs.clocks.read.Goals as goal

pub loop-clock-preserved : goal.loop-clock-preserved
loop-clock-preserved c =
    let items = c.loop-clock.clock-items in
    let i = c.loop-clock.clock-index in
    let x = c.clock-item.result in
    let behind : c.read.new.self ≡ clock_behind c.args.pid c.args.reading x =
    c.read.ensures ∙ ap (clock_behind c.args.pid c.args.reading) (sym c.clock-item.is) in
    let within : i < length c.deref_mut-clock-items.result.now = omega arith in
    ap (slice_set items i) behind
    ∙ map_over_more (clock_behind c.args.pid c.args.reading) c.deref_mut-clock-items.result.now items i x within c.loop-clock.invariant c.clock-item.is
