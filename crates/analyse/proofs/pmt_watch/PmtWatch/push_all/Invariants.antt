use Rattle.std.proofs.Common.{◌≡◌, ◌++◌, List, false, take}
use Rattle.std.specs.List.{list_any}
use Rattle.tables.specs.Pmt.{PmtValue}
use Rattle.analyse.specs.ToldPmts.{is_pmt_in, pmts_in}
use Rattle.analyse.specs.PmtWatching.{KeepsNewest}
use Rattle.analyse.proofs.pmt_watch.PmtWatch.push_all.Given as goal

abbrev pub invariant-loop-item : goal.invariant-loop-item
invariant-loop-item l =
    (l.self.assembly ≡ l.fn.self.assembly)
    × (l.seen.came ≡ list_any is_pmt_in (take l.item-index l.told))
    × (l.seen.changed ≡ false → l.self.newest ≡ l.fn.self.newest)
    × ((pmts : List PmtValue) → KeepsNewest l.fn.self.newest pmts → KeepsNewest l.self.newest (pmts ++ pmts_in (take l.item-index l.told)))
