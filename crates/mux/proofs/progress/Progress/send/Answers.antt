use Rattle.std.proofs.Common.{ℕ, ◌≡◌, ◌+◌, List, Some, map, set, sym, ap, ◌∙◌, subst}
use Rattle.std.proofs.lemmas.Option.{same_Some, slice_get_within}
use Rattle.buffers.specs.BucketValue.{BucketValue}
use Rattle.mux.specs.Buckets.{MovedOn}
use Rattle.mux.specs.SlotClock.{ClockValue}
use Rattle.mux.specs.KeptBucket.{ProgressValue, bucket_at, sent_at}
use Rattle.mux.proofs.KeptBuckets.{kept_within, kept_read, one_sent}
use Rattle.mux.proofs.progress.Progress.send.Goals as goal

pub send-requires-clause-bucket : goal.send-requires-clause-bucket
send-requires-clause-bucket c =
    let slot = c.self.inside.clock.slot in
    let kept = c.self.inside.kept.items in
    let seen = ap (λ (p : ProgressValue). p.buckets) c.self.view_is in
    let within = slice_get_within c.args.self.now.buckets c.args.index c.args.bucket c.requires.bucket in
    let P : ℕ → Type 0 = λ n. c.args.bucket ≡ bucket_at n c.index_mut.result.now in
    subst P (sym c.slot-slot.ensures) (same_Some _ _ (sym c.requires.bucket ∙ kept_read slot kept _ c.args.index c.index_mut.result.now seen within c.index_mut.ensures.value))

pub returns-clause-buckets : goal.returns-clause-buckets
returns-clause-buckets c =
    let slot = c.self.inside.clock.slot in
    let kept = c.self.inside.kept.items in
    let seen = ap (λ (p : ProgressValue). p.buckets) c.self.view_is in
    let now = set c.self.inside.kept.items c.args.index c.send.new.self in
    let e : c.advance.new.self.slot ≡ c.self.inside.clock.slot + 1 = ap (λ (x : ClockValue). x.slot) c.advance.ensures in
    let sent : c.send.new.self ≡ sent_at c.self.inside.clock.slot c.index_mut.result.now = c.send.ensures ∙ ap (λ n. sent_at n c.index_mut.result.now) c.slot-slot.ensures in
    let P : List BucketValue → Type 0 = λ before. MovedOn (Some c.args.index) before (map (bucket_at c.advance.new.self.slot) now) in
    let Q : ℕ → Type 0 = λ n. MovedOn (Some c.args.index) (map (bucket_at c.self.inside.clock.slot) c.self.inside.kept.items) (map (bucket_at n) now) in
    subst P seen (subst Q (sym e) (one_sent slot kept now c.args.index c.index_mut.result.now c.self.invariant (kept_within slot kept _ c.args.index seen (slice_get_within c.args.self.now.buckets c.args.index c.args.bucket c.requires.bucket)) c.index_mut.ensures.value (ap (set kept c.args.index) sent)))
