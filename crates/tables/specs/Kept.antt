-- What is kept of the sections of a table as they come: of the run that is in force the newest section of each number.
use Rattle.std.specs.Prelude.{◌≡◌, ℕ, zero, suc, ◌+◌, ◌==◌, not, if◌then◌else◌, List, [], ◌∷◌, Option, Some, None, option_map, option_and_then, filter, find, map}
use Rattle.tables.specs.InForce.{SectionValue, is_of_same_version, run_of}
use Rattle.tables.specs.declared.header.Header.{Header}

-- the sections of another number
abbrev pub without : {V : Type 0} → ℕ → List (SectionValue V) → List (SectionValue V)
without number sections = filter (λ s. not (s.header.section_number == number)) sections

-- of each number the newest section, which stands first
abbrev pub newest_of_each : {V : Type 0} → List (SectionValue V) → List (SectionValue V)
newest_of_each [] = []
newest_of_each (s ∷ before) = s ∷ without s.header.section_number (newest_of_each before)

-- what is kept where a section with this header comes: nothing of another version
abbrev pub kept_with : {V : Type 0} → Header → List (SectionValue V) → List (SectionValue V)
kept_with h [] = []
kept_with h (newest ∷ before) = if is_of_same_version h newest.header then newest ∷ before else []

-- what is kept is, among these sections, what is in force
abbrev pub StandsFor : {V : Type 0} → List (SectionValue V) → List (SectionValue V) → Type 0
StandsFor kept sections = kept ≡ newest_of_each (run_of sections)

-- the section that is kept under a number
abbrev pub kept_under : {V : Type 0} → List (SectionValue V) → ℕ → Option (SectionValue V)
kept_under kept number = find (λ s. s.header.section_number == number) kept

-- the sections that are kept under `count` numbers from `first` on, where none is missing
abbrev pub all_kept : {V : Type 0} → List (SectionValue V) → ℕ → ℕ → Option (List (SectionValue V))
all_kept kept first zero = Some []
all_kept kept first (suc count) =
    option_and_then (λ s. option_map (λ rest. s ∷ rest) (all_kept kept (suc first) count)) (kept_under kept first)

-- the table that is kept, where it is complete
abbrev pub kept_table : {V : Type 0} → List (SectionValue V) → Option (List (SectionValue V))
kept_table [] = None
kept_table (newest ∷ before) = all_kept (newest ∷ before) 0 (newest.header.last_section_number + 1)

-- what sections say
abbrev pub tables_of : {V : Type 0} → List (SectionValue V) → List V
tables_of sections = map (λ s. s.table) sections
