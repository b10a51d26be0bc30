use Rattle.std.proofs.Common.{◌<◌, ◌≤◌, ◌≡◌, ◌⊎◌, length}
use Rattle.mux.specs.HeadList.{first_at}
use Rattle.mux.proofs.HeadListLaws.{LeadsFirsts}
use Rattle.mux.proofs.head_list.HeadList.first.Given as goal

abbrev pub invariant-loop-block : goal.invariant-loop-block
invariant-loop-block l = LeadsFirsts l.self-inside.firsts.items l.block l.rank
    × (l.rank ≤ 18446744073709551615)
    × ((l.rank ≡ 18446744073709551615) ⊎ ((l.least < length l.self-inside.firsts.items) × (l.rank ≡ (first_at l.self-inside.firsts.items l.least).rank)))
