-- How often the tables come, read off the packets that went out: half a second between two PATs and two PMTs (ETSI TR
-- 101 290, 5.2.1), two seconds for the SDT and ten for the NIT (ETSI TR 101 211, 4.4).
use Rattle.std.specs.Prelude.{◌≡◌, ℕ, ◌+◌, ◌≤◌, ◌<◌, List, length, Some, All}
use Rattle.std.specs.List.{slice_get}
use Rattle.tspkt.specs.Counted.{with_counter}
use Rattle.output_tables.specs.Output.{table_packet}
use Rattle.output_tables.specs.OnPid.{SectionOnPid}
use Rattle.rounds.specs.Rounds.{fast_limit_of, sdt_limit_of, nit_limit_of}
use Rattle.plan.specs.Build.{PlanValue}

-- a packet that begins the section, whatever its counter of 4 bits (ISO/IEC 13818-1, 2.4.3.3)
abbrev pub Begins : SectionOnPid → List ℕ → Type 0
Begins s q = (counter : ℕ) × (counter < 16) × (q ≡ with_counter (table_packet s.pid s.bytes 0) counter)

-- each window of so many slots holds a packet that begins the section
abbrev pub BeginsWithin : ℕ → SectionOnPid → List (List ℕ) → Type 0
BeginsWithin window s out =
    (first : ℕ) → first + window ≤ length out
    → (m : ℕ) × (first ≤ m) × (m < first + window) × ((q : List ℕ) × (slice_get out m ≡ Some q) × Begins s q)

-- each section of each table comes within the table's limit
pub record TablesRecur (p : PlanValue) (out : List (List ℕ)) : Type 0 where
  pub pat : BeginsWithin (fast_limit_of p.request.rate) p.tables.pat out
  pub pmts : All (λ (s : SectionOnPid). BeginsWithin (fast_limit_of p.request.rate) s out) p.tables.pmts
  pub sdt : All (λ (s : SectionOnPid). BeginsWithin (sdt_limit_of p.request.rate) s out) p.tables.sdt
  pub nit : BeginsWithin (nit_limit_of p.request.rate) p.tables.nit out
