use Rattle.std.proofs.Common.{ℕ, ◌<◌, ◌≡◌, length}
use Rattle.mux.specs.HeadList.{IsLeast, first_at}
use Rattle.mux.proofs.head_list.HeadList.new.Given as goal

abbrev pub invariant-loop-block : goal.invariant-loop-block
invariant-loop-block l = (length l.firsts.items ≡ l.block) × ((b : ℕ) → b < l.block → IsLeast l.ranks.items b (first_at l.firsts.items b))
