use Rattle.std.proofs.Common.{◌≡◌, ◌<◌, ◌≤◌, ◌/◌, ◌+◌, ℕ, List, ◌∷◌, get_or, slice_set, arith, subst, sym, ap, ◌∙◌}
use Rattle.rate_meter.specs.Line.{within_64}
use Rattle.probe.specs.declared.sighting.Sighting.{Sighting}
use Rattle.probe.specs.declared.pid_count.PidCount.{PidCount}
use Rattle.probe.specs.declared.pid_counts.PidCounts.TheInside.{Inside}
use Rattle.probe.specs.Counting.{AreCounts, IsKeptCount}
use Rattle.probe.proofs.CountLaws.{counts_grow, counts_stay}
use Rattle.probe.proofs.pid_counts.PidCounts.add.Goals as goal
use Rattle.probe.proofs.pid_counts.PidCounts.add.Goals.{then-place-lt-PID_COUNT, else-place-lt-PID_COUNT}

-- counts that are those of other names
same_counts : (seen after : List Sighting) (packets : ℕ) (counts kept : List PidCount) → after ≡ seen → kept ≡ counts → AreCounts seen packets counts
    → AreCounts after packets kept
same_counts seen after packets counts kept e f k =
    let P : List Sighting → Type 0 = λ xs. AreCounts xs packets kept in
    let Q : List PidCount → Type 0 = AreCounts seen packets in
    subst P (sym e) (subst Q (sym f) k)

pub invariant_of-self : goal.invariant_of-self
invariant_of-self c =
    let s = c.args.sighting in
    let before = c.self.inside in
    let now = c.if-place-lt-PID_COUNT.self-inside in
    let place : c.from-place.result ≡ s.pid = c.from-place.ensures in
    elim c.if-place-lt-PID_COUNT.branch [
      | then-place-lt-PID_COUNT w ↦
          let within : s.pid < 8192 = omega (arith, place, w.if-place-lt-PID_COUNT.true) in
          let past : now.past ≡ before.past = ap (λ (i : Inside). i.past) w.self-inside-is in
          let packets : now.packets ≡ before.packets = ap (λ (i : Inside). i.packets) w.self-inside-is in
          let counts : now.counts.items ≡ slice_set before.counts.items c.from-place.result w.with.result =
          ap (λ (i : Inside). i.counts.items) w.self-inside-is in
          let had = w.index.result.now in
          let at : had ≡ get_or before.counts.items s.pid had = w.index.ensures ∙ ap (λ (n : ℕ). get_or before.counts.items n had) place in
          let P : PidCount → Type 0 = IsKeptCount s.pid before.past in
          let kept : P had = subst P (sym at) (c.self.invariant.counts_are s.pid within had) in
          let grown = w.with.ensures before.past (ap (λ (n : ℕ). n / 512) c.self.invariant.packets_are) kept in
          let more = c.saturating_add-self-inside.ensures ∙ ap (λ (n : ℕ). within_64 (n + 1)) packets in
          same_counts _ _ _ _ _ (c.add.ensures ∙ ap (λ xs. s ∷ xs) past) (counts ∙ ap (λ (n : ℕ). slice_set before.counts.items n w.with.result) place)
          (counts_grow s before.past before.packets c.saturating_add-self-inside.result before.counts.items w.with.result within c.self.invariant more grown)
      | else-place-lt-PID_COUNT w ↦
          let past : now.past ≡ before.past = ap (λ (i : Inside). i.past) w.self-inside-is in
          let packets : now.packets ≡ before.packets = ap (λ (i : Inside). i.packets) w.self-inside-is in
          let counts : now.counts.items ≡ before.counts.items = ap (λ (i : Inside). i.counts.items) w.self-inside-is in
          let beyond : 8192 ≤ s.pid = omega (arith, place, w.if-place-lt-PID_COUNT.false) in
          let more = c.saturating_add-self-inside.ensures ∙ ap (λ (n : ℕ). within_64 (n + 1)) packets in
          same_counts _ _ _ _ _ (c.add.ensures ∙ ap (λ xs. s ∷ xs) past) counts
          (counts_stay s before.past before.packets c.saturating_add-self-inside.result before.counts.items beyond c.self.invariant more)
    ]
