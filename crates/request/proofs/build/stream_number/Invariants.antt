use Rattle.std.proofs.Common.{◌≡◌, ℕ, ◌<◌, false, get_or, pos}
use Rattle.request.specs.Request.{has_same_source}
use Rattle.request.proofs.build.stream_number.Given as goal

abbrev pub invariant-loop-i : goal.invariant-loop-i
invariant-loop-i l = (k : ℕ) → k < l.i → has_same_source l.row (get_or l.streams k (record { input = pos 0; pid = pos 0; out = pos 0; leak = pos 0 })) ≡ false
