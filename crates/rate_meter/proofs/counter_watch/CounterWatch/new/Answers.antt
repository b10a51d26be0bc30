use Rattle.std.proofs.Common.{rules, ◌≡◌, replicate, List, false, subst, sym}
use Rattle.rate_meter.specs.declared.seen.Seen.{Seen}
use Rattle.rate_meter.specs.Counters.{KeepsCounters}
use Rattle.rate_meter.proofs.CounterLaws.{counters_begin}
use Rattle.rate_meter.proofs.counter_watch.CounterWatch.new.Goals as goal

pub invariant_of-result : goal.invariant_of-result
invariant_of-result c =
    let none : c.in_ok-vec.field-0.items ≡ replicate 8191 0 = search rules in
    let whole : c.in_ok-vec-2.field-0.items ≡ replicate 8191 false = search rules in
    let P : List Seen → Type 0 = λ s. KeepsCounters s c.in_ok-vec.field-0.items c.in_ok-vec-2.field-0.items in
    subst P (sym c.new.ensures) (counters_begin c.in_ok-vec.field-0.items c.in_ok-vec-2.field-0.items none whole)
