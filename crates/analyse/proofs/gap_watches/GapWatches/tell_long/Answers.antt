use Rattle.std.proofs.Common.{◌++◌, ◌||◌, Bool, Some, ap, ◌∙◌}
use Rattle.analyse.specs.Faults.{told_if}
use Rattle.analyse.specs.GapWatching.{is_long}
use Rattle.analyse.specs.GapsWatching.{since_of}
use Rattle.analyse.proofs.GapsLaws.{told_none, told_more}
use Rattle.analyse.proofs.gap_watches.GapWatches.tell_long.Goals as goal

pub loop-pid-init : goal.loop-pid-init
loop-pid-init c = told_none c.args.self.now c.args.also c.args.kind c.args.count c.args.out.now.items

pub loop-pid-preserved : goal.loop-pid-preserved
loop-pid-preserved c =
    told_more c.args.self.now c.args.also c.args.kind c.args.count c.loop-pid.pid c.args.out.now.items c.loop-pid.out.items c.tell_one.new.out.items c.loop-pid.invariant
    (c.in_ok-tell_one.ensures
    ∙ ap (λ (b : Bool). c.loop-pid.out.items ++ told_if (is_long c.args.self.now.limit c.args.count (since_of c.args.self.now c.loop-pid.pid) || b) c.args.kind c.args.count (Some c.loop-pid.pid)) c.is_also.ensures)
