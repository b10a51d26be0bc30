use Rattle.std.proofs.Common.{ℕ, ◌<◌, ◌≤◌, ◌≡◌, length, get_or}
use Rattle.mux.specs.HeadList.{IsRank, head_at}
use Rattle.mux.proofs.head_list.ranks_of.Given as goal

abbrev pub invariant-loop-i : goal.invariant-loop-i
invariant-loop-i l = (length l.ranks.items ≡ l.i)
    × ((j : ℕ) → j < l.i → j < length l.heads → IsRank (head_at l.heads j) (get_or l.ranks.items j 0))
    × ((j : ℕ) → j < l.i → length l.heads ≤ j → get_or l.ranks.items j 0 ≡ 18446744073709551615)
