-- The sections of a table, until it was complete for the first time.
use Rattle.std.specs.Prelude.{◌≡◌, List, [], ◌∷◌, Option, None, option_map}
use Rattle.tables.specs.InForce.{SectionValue}
use Rattle.tables.specs.Kept.{StandsFor, tables_of}
use Rattle.acquire.specs.Findings.{first_complete}

-- the sections, the newest first, behind others
abbrev pub newest_first : {V : Type 0} → List (SectionValue V) → List (SectionValue V) → List (SectionValue V)
newest_first before [] = before
newest_first before (s ∷ later) = newest_first (s ∷ before) later

-- the run of a table's sections, until the table was complete; then its sections in their order
pub record FirstTableState (V : Type 0) : Type 0 where
  pub run : List (SectionValue V)
  pub found : Option (List V)

-- the sections came, in this order
pub record HasTaken {V : Type 0} (f : FirstTableState V) (sections : List (SectionValue V)) : Type 0 where
  pub found : f.found ≡ option_map tables_of (first_complete sections)
  pub run : f.found ≡ None → StandsFor f.run (newest_first [] sections)
