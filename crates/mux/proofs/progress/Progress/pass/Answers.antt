use Rattle.std.proofs.Common.{ℕ, ◌≡◌, ◌+◌, List, None, map, sym, ap, subst}
use Rattle.buffers.specs.BucketValue.{BucketValue}
use Rattle.mux.specs.Buckets.{MovedOn}
use Rattle.mux.specs.SlotClock.{ClockValue}
use Rattle.mux.specs.KeptBucket.{ProgressValue, bucket_at}
use Rattle.mux.proofs.KeptBuckets.{all_passed}
use Rattle.mux.proofs.progress.Progress.pass.Goals as goal

pub returns-clause-buckets : goal.returns-clause-buckets
returns-clause-buckets c =
    let slot = c.self.inside.clock.slot in
    let kept = c.self.inside.kept.items in
    let e : c.advance.new.self.slot ≡ c.self.inside.clock.slot + 1 = ap (λ (x : ClockValue). x.slot) c.advance.ensures in
    let P : List BucketValue → Type 0 = λ before. MovedOn None before (map (bucket_at c.advance.new.self.slot) c.self.inside.kept.items) in
    let Q : ℕ → Type 0 = λ n. MovedOn None (map (bucket_at c.self.inside.clock.slot) c.self.inside.kept.items) (map (bucket_at n) c.self.inside.kept.items) in
    subst P (ap (λ (p : ProgressValue). p.buckets) c.self.view_is) (subst Q (sym e) (all_passed slot kept c.self.invariant))
