-- Which sections of a table are in force, among those that were read from its PID. current_next_indicator,
-- version_number, section_number and last_section_number are those of ISO/IEC 13818-1, 2.4.4.5, and EN 300 468, 5.2;
-- when a table counts as changed or as complete is profile. Lists of sections stand newest first.
use Rattle.std.specs.Prelude.{ℕ, zero, suc, ◌+◌, ◌==◌, Bool, ◌&&◌, if◌then◌else◌, List, [], ◌∷◌, Option, Some, None, option_map, option_and_then, filter, find}
use Rattle.tables.specs.declared.header.Header.{Header}

-- a section: its header, and what it says
pub record SectionValue (V : Type 0) : Type 0 where
  pub header : Header
  pub table : V

-- both are sections of one version of one table
abbrev pub is_of_same_version : Header → Header → Bool
is_of_same_version h k =
    (h.table_id_extension == k.table_id_extension && h.version_number == k.version_number)
    && h.last_section_number == k.last_section_number

-- the sections that stand in front of the first one of another version
abbrev pub front_of_version : {V : Type 0} → Header → List (SectionValue V) → List (SectionValue V)
front_of_version h [] = []
front_of_version h (s ∷ before) = if is_of_same_version h s.header then s ∷ front_of_version h before else []

-- the run: the newest current section, and those current ones that came behind the last one of another version
abbrev pub run_of_current : {V : Type 0} → List (SectionValue V) → List (SectionValue V)
run_of_current [] = []
run_of_current (s ∷ before) = s ∷ front_of_version s.header before

abbrev pub run_of : {V : Type 0} → List (SectionValue V) → List (SectionValue V)
run_of sections = run_of_current (filter (λ s. s.header.current_next_indicator) sections)

-- the section that is in force under a number: the newest one of the run
abbrev pub in_force : {V : Type 0} → List (SectionValue V) → ℕ → Option (SectionValue V)
in_force sections number = find (λ s. s.header.section_number == number) (run_of sections)

-- the sections in force under `count` numbers from `first` on, where none is missing
abbrev pub all_in_force : {V : Type 0} → List (SectionValue V) → ℕ → ℕ → Option (List (SectionValue V))
all_in_force sections first zero = Some []
all_in_force sections first (suc count) =
    option_and_then (λ s. option_map (λ rest. s ∷ rest) (all_in_force sections (suc first) count)) (in_force sections first)

abbrev pub complete_up_to : {V : Type 0} → List (SectionValue V) → List (SectionValue V) → Option (List (SectionValue V))
complete_up_to sections [] = None
complete_up_to sections (newest ∷ before) = all_in_force sections 0 (newest.header.last_section_number + 1)

-- the table in force, in the order of section numbers, where it is complete: a section stands under every number
-- from 0 to last_section_number
abbrev pub complete_table : {V : Type 0} → List (SectionValue V) → Option (List (SectionValue V))
complete_table sections = complete_up_to sections (run_of sections)
