use Rattle.std.proofs.Common.{◌++◌, List, filter_map, take}
use Rattle.tables.specs.InForce.{SectionValue}
use Rattle.tables.specs.OnPid.{sections_in}
use Rattle.acquire.specs.Taken.{HasTaken}
use Rattle.acquire.proofs.table_finder.take_told.Given as goal

abbrev pub invariant-loop-item : goal.invariant-loop-item
invariant-loop-item g l =
    (sections : List (SectionValue _)) → HasTaken l.initial.table sections
    → HasTaken l.table (sections ++ filter_map g.T.SoughtTable.section_of (sections_in (take l.item-index l.told)))
