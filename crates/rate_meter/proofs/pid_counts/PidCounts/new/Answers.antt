use Rattle.std.proofs.Common.{rules, ◌≡◌, replicate, List, subst, sym}
use Rattle.rate_meter.specs.declared.seen.Seen.{Seen}
use Rattle.rate_meter.specs.Meter.{AreCounts}
use Rattle.rate_meter.proofs.MeterLaws.{counts_begin}
use Rattle.rate_meter.proofs.pid_counts.PidCounts.new.Goals as goal

pub invariant_of-result : goal.invariant_of-result
invariant_of-result c =
    let zeros : c.in_ok-vec.field-0.items ≡ replicate 8192 0 = search rules in
    let P : List Seen → Type 0 = λ s. AreCounts s 0 c.in_ok-vec.field-0.items in
    subst P (sym c.new.ensures) (counts_begin c.in_ok-vec.field-0.items zeros)
