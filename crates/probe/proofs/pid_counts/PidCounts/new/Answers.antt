use Rattle.std.proofs.Common.{◌≡◌, ◌∙◌, ap, arith, refl, replicate, List, subst, sym}
use Rattle.probe.specs.declared.sighting.Sighting.{Sighting}
use Rattle.probe.specs.declared.pid_count.PidCount.{PidCount}
use Rattle.probe.specs.Counting.{AreCounts}
use Rattle.probe.proofs.CountLaws.{counts_begin}
use Rattle.probe.proofs.pid_counts.PidCounts.new.Goals as goal

pub invariant_of-result : goal.invariant_of-result
invariant_of-result c =
    let all : c.in_ok-vec.field-0.items ≡ replicate 8192 c.new-2.result =
    c.in_ok-vec.ensures.items_if_clones_equal (λ y h. grind arith) in
    let P : List Sighting → Type 0 = λ s. AreCounts s 0 c.in_ok-vec.field-0.items in
    subst P (sym c.new.ensures) (counts_begin 8192 c.in_ok-vec.field-0.items c.new-2.result refl c.new-2.ensures all)
