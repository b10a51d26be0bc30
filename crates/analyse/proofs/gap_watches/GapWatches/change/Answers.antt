use Rattle.std.proofs.Common.{◌≤◌, arith}
use Rattle.std.specs.Prelude.{option_map}
use Rattle.analyse.proofs.GapsLaws.{changed_all, lowered_seen, lowered_changes}
use Rattle.analyse.proofs.gap_watches.GapWatches.change.Goals as goal

pub returns-clause-seen : goal.returns-clause-seen
returns-clause-seen c watched mark s o =
    let marked = option_map (λ p. p.now) c.args.marked in
    let all : 8192 ≤ c.loop-pid.pid = omega arith in
    let l = c.lower_due.ensures in
    changed_all c.lower_due.new.self c.loop-pid.self c.args.set.now marked watched mark c.args.count c.loop-pid.pid all (rw l.limit l.due_mark) c.loop-pid.invariant
    (lowered_seen c.args.self.now c.lower_due.new.self watched mark c.args.count l s)
    (lowered_changes c.args.self.now c.lower_due.new.self c.args.set.now watched mark c.args.count marked l o)
