use Rattle.std.proofs.Common.{ℕ, ◌+◌, ◌*◌, ◌<◌, ◌≤◌, ◌≡◌, get_or}
use Rattle.mux.proofs.head_list.first_of.Given as goal

abbrev pub invariant-loop-i : goal.invariant-loop-i
invariant-loop-i l = (8 * l.block ≤ l.first.place) × (l.first.place < 8 * l.block + l.i) × (l.first.rank ≡ get_or l.ranks l.first.place 0)
    × ((j : ℕ) → 8 * l.block ≤ j → j < 8 * l.block + l.i → l.first.rank ≤ get_or l.ranks j 0)
