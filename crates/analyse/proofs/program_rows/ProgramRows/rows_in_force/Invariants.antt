use Rattle.std.proofs.Common.{◌≡◌, List, filter}
use Rattle.std.specs.List.{flat_map, range_with_len}
use Rattle.tables.specs.InForce.{SectionValue, in_force}
use Rattle.tables.specs.Kept.{StandsFor}
use Rattle.tables.specs.Pat.{PatValue}
use Rattle.analyse.specs.InForce.{rows_of_section}
use Rattle.analyse.specs.ProgramsWatching.{is_program}
use Rattle.analyse.proofs.program_rows.ProgramRows.rows_in_force.Given as goal

abbrev pub invariant-loop-number : goal.invariant-loop-number
invariant-loop-number l =
    (sections : List (SectionValue PatValue)) → StandsFor l.self.run sections
    → l.rows.items ≡ filter is_program (flat_map (λ n. rows_of_section (in_force sections n)) (range_with_len 0 l.number))
