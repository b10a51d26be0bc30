-- What the parts of acquisition have seen: their states behind packets.
use Rattle.std.specs.Prelude.{◌≡◌, ℕ, ◌==◌, Bool, ◌&&◌, ◌||◌, if◌then◌else◌, List, [], ◌∷◌, ◌++◌, length, map, Option, Some, None, is_some, option_map, option_and_then, find, filter_map}
use Rattle.tables.specs.InForce.{SectionValue}
use Rattle.tables.specs.OnPid.{sections_on, value_of, pat_section_of, sdt_section_of, sections_in}
use Rattle.tables.specs.Pmt.{PmtValue, pmt_of}
use Rattle.section.specs.declared.told.Told.{Told}
use Rattle.acquire.specs.Findings.{Findings, findings, is_all_found, all_some, or_later, first_pmt_on, pmt_pid_of, pat_found, behind_pat, pmt_found}
use Rattle.tables.specs.SectionReading.{ReaderState, reader_on, reader_step, reader_behind}
use Rattle.acquire.specs.Taken.{FirstTableState, HasTaken}
use Rattle.acquire.specs.declared.table_finder.TableFinder.{TableFinder}
use Rattle.acquire.specs.declared.pmt_finder.PmtFinder.{PmtFinder}
use Rattle.acquire.specs.declared.program_finder.ProgramFinder.{ProgramFinder}
use Rattle.acquire.specs.declared.found.Found.{Found}
use Rattle.tables.specs.Pat.{PatValue}
use Rattle.tables.specs.Sdt.{SdtValue}
use Rattle.std.specs.List.{All, flat_map, zip}
use Rattle.tables.specs.declared.pat_row.PatRow.{PatRow}

-- the first complete table of a PID was sought in these packets: what it has taken, and where it goes on
pub record HasSought {V : Type 0} (pid : ℕ) (section_of : List ℕ → Option (SectionValue V)) (reader : ReaderState) (table : FirstTableState V) (packets : List (List ℕ)) : Type 0 where
  pub taken : HasTaken table (filter_map section_of (sections_on pid packets))
  pub state : table.found ≡ None → reader ≡ reader_on pid packets

abbrev pub HasSoughtPat : TableFinder PatValue → List (List ℕ) → Type 0
HasSoughtPat f packets = HasSought 0x0000 pat_section_of f.reader f.table packets

abbrev pub HasSoughtSdt : TableFinder SdtValue → List (List ℕ) → Type 0
HasSoughtSdt f packets = HasSought 0x0011 sdt_section_of f.reader f.table packets

-- the sections of PMTs among what was told
abbrev pub pmts_in : List Told → List PmtValue
pmts_in told = filter_map (λ b. value_of (pmt_of b)) (sections_in told)

-- a current PMT of the program
abbrev pub is_pmt_of : ℕ → PmtValue → Bool
is_pmt_of program v = v.header.current_next_indicator && v.header.table_id_extension == program

-- a program whose PMT is sought on a PID, where it has one, in these packets; once it was found, no more
abbrev pub pmt_finder_on : ℕ → Option ℕ → List (List ℕ) → PmtFinder
pmt_finder_on program pid packets = record {
  program = program;
  reader = option_and_then (λ pid. if is_some (first_pmt_on pid program packets) then None else Some (reader_on pid packets)) pid;
}

-- the PMT that a packet more brings
abbrev pub pmt_told : List ℕ → PmtFinder → Option PmtValue
pmt_told packet f = option_and_then (λ r. find (is_pmt_of f.program) (pmts_in (reader_step r packet).told)) f.reader

-- one packet more
abbrev pub pmt_finder_behind : List ℕ → PmtFinder → PmtFinder
pmt_finder_behind packet f = record {
  program = f.program;
  reader = if is_some (pmt_told packet f) then None else option_map (λ r. reader_behind r packet) f.reader;
}

-- what is found behind a packet more, in the places of the programs
abbrev pub places_behind : List ℕ → List PmtFinder → List (Option PmtValue) → List (Option PmtValue)
places_behind packet finders found = map (λ (p : PmtFinder × Option PmtValue). or_later (pmt_told packet p.0) p.1) (zip finders found)

-- the PAT was found, and the PMT is sought from here on
abbrev pub pmt_finder_begun : List PatRow → PmtFinder → PmtFinder
pmt_finder_begun rows f = pmt_finder_on f.program (pmt_pid_of f.program rows) []

-- where a program's PMT is sought: behind the PAT, on the PID that it gives
abbrev pub pmt_finder_of : List (List ℕ) → ℕ → PmtFinder
pmt_finder_of packets program = pmt_finder_on program (option_and_then (pmt_pid_of program) (pat_found packets)) (behind_pat packets)

-- the PAT and the PMTs of programs were sought in these packets
pub record HasSoughtPrograms (programs : List ℕ) (f : ProgramFinder) (packets : List (List ℕ)) : Type 0 where
  pub sought : HasSoughtPat f.pat packets
  pub finders : f.finders.items ≡ map (pmt_finder_of packets) programs
  pub found : f.found.items ≡ map (λ program. pmt_found program packets) programs

-- what acquisition knows, and whether memory was refused
pub record AcquireState : Type 0 where
  pub programs : ProgramFinder
  pub sdt : TableFinder SdtValue
  pub is_refused : Bool

-- these packets were pushed, in this order, where these programs are wanted
pub record HasSeen (wanted : List ℕ) (a : AcquireState) (packets : List (List ℕ)) : Type 0 where
  pub programs : HasSoughtPrograms wanted a.programs packets
  pub sdt : HasSoughtSdt a.sdt packets

-- what was found, the SDT as its rows
abbrev pub findings_of : Found → Findings
findings_of f = record { pmts = f.pmts.items; sdt = option_map (λ sdts. flat_map (λ (s : SdtValue). s.rows) sdts.items) f.sdt }

-- a packet more was pushed
abbrev pub ProgramsSee : ProgramFinder → List ℕ → ProgramFinder → Type 0
ProgramsSee old packet new =
    (wanted : List ℕ) (packets : List (List ℕ)) → HasSoughtPrograms wanted old packets → HasSoughtPrograms wanted new (packets ++ packet ∷ [])

abbrev pub Sees : AcquireState → List ℕ → AcquireState → Type 0
Sees old packet new =
    (wanted : List ℕ) (packets : List (List ℕ)) → HasSeen wanted old packets → HasSeen wanted new (packets ++ packet ∷ [])

-- the answer behind a packet more is whether all that is wanted was found
abbrev pub TellsAllFound : AcquireState → List ℕ → Bool → Type 0
TellsAllFound old packet answer =
    (wanted : List ℕ) (packets : List (List ℕ)) → HasSeen wanted old packets → answer ≡ is_all_found wanted (findings wanted (packets ++ packet ∷ []))

-- the rows of these sections are those of the first complete PAT among the packets that were pushed
abbrev pub TellsPat : AcquireState → Option (List PatValue) → Type 0
TellsPat a sections = (wanted : List ℕ) (packets : List (List ℕ)) → HasSeen wanted a packets
    → option_map (flat_map (λ (s : PatValue). s.rows)) sections ≡ pat_found packets

-- what is found is that of the packets that were pushed
abbrev pub IsFound : AcquireState → Found → Type 0
IsFound a found = (wanted : List ℕ) (packets : List (List ℕ)) → HasSeen wanted a packets → findings_of found ≡ findings wanted packets

-- nothing is found, and nothing was
pub record FindsNothing (a : AcquireState) : Type 0 where
  pub pmts : All (λ (pmt : Option PmtValue). pmt ≡ None) a.programs.found.items
  pub pat : a.programs.pat.table.found ≡ None
  pub sdt : a.sdt.table.found ≡ None

-- whether all is found, by what is known
abbrev pub knows_all : AcquireState → Bool
knows_all a = length a.programs.found.items == 0 || (all_some a.programs.found.items && is_some a.sdt.table.found)
