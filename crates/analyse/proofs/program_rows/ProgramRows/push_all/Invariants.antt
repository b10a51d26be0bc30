use Rattle.std.proofs.Common.{◌≡◌, ◌++◌, List, reverse, take}
use Rattle.std.specs.List.{list_any}
use Rattle.tables.specs.InForce.{SectionValue}
use Rattle.tables.specs.Kept.{StandsFor}
use Rattle.tables.specs.Pat.{PatValue}
use Rattle.analyse.specs.ProgramsWatching.{is_pat_in, pats_in}
use Rattle.analyse.proofs.program_rows.ProgramRows.push_all.Given as goal

abbrev pub invariant-loop-item : goal.invariant-loop-item
invariant-loop-item l =
    (l.self.rows ≡ l.fn.self.rows)
    × (l.came ≡ list_any is_pat_in (take l.item-index l.told))
    × ((sections : List (SectionValue PatValue)) → StandsFor l.fn.self.run (reverse sections) → StandsFor l.self.run (reverse (sections ++ pats_in (take l.item-index l.told))))
