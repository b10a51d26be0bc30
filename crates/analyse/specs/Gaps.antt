-- Gaps: a watched thing that didn't come within its limit of slots (profile; the limits of ETSI TR 101 290, 5.2.1, are
-- times). Watching and marks are said of numbers of slots: `watched k` is whether it is watched behind the first k
-- slots, and `mark k` whether the last of the first k slots is a mark (`mark 0`: what stands before the first slot is).
use Rattle.std.specs.Prelude.{ℕ, ◌+◌, ◌-◌, nat_le, Bool, ◌&&◌, not}
use Rattle.analyse.specs.Slots.{each_from}

-- the gap is told at slot m: watched behind each of the numbers of slots from m - limit to m, a mark at the first of
-- them, and none behind it. So it is told once, at the first slot past the limit
unfoldable pub is_gap_at : ℕ → (ℕ → Bool) → (ℕ → Bool) → ℕ → Bool
is_gap_at limit watched mark m =
    (nat_le limit m && each_from (m - limit) (m + 1) watched)
    && (mark (m - limit) && each_from (m - limit + 1) (m + 1) (λ k. not (mark k)))
