-- What the packets of a PID say: their sections, and the tables in them (ISO/IEC 13818-1, 2.4.4; EN 300 468, 5.1.3).
-- Packets stand in the order in which they came.
use Rattle.std.specs.Prelude.{◌≡◌, ℕ, ◌==◌, Bool, ◌&&◌, List, [], ◌∷◌, Option, Some, None, option_map, Result, Ok, Err, filter, filter_map}
use Rattle.tspkt.specs.Packet.{pid_of, transport_scrambling_control_of}
use Rattle.section.specs.Assembled.{assembled}
use Rattle.section.specs.declared.told.Told.{Told}
use Rattle.section.specs.declared.told.Told.TheVariants.{Section, BadCrc, TooLong, Cut}
use Rattle.tables.specs.InForce.{SectionValue}
use Rattle.tables.specs.Pat.{PatValue, pat_of}
use Rattle.tables.specs.Pmt.{PmtValue, pmt_of}
use Rattle.tables.specs.Sdt.{SdtValue, sdt_of}
use Rattle.tables.specs.declared.table_fault.TableFault.{TableFault}

-- the packets of a PID that aren't scrambled
abbrev pub packets_on : ℕ → List (List ℕ) → List (List ℕ)
packets_on pid packets = filter (λ p. pid_of p == pid && transport_scrambling_control_of p == 0) packets

abbrev pub section_in : Told → Option (List ℕ)
section_in (Section bytes) = Some bytes.items
section_in BadCrc = None
section_in TooLong = None
section_in Cut = None

-- the sections among what was told
abbrev pub sections_in : List Told → List (List ℕ)
sections_in told = filter_map section_in told

-- the sections that the packets of a PID told
abbrev pub sections_on : ℕ → List (List ℕ) → List (List ℕ)
sections_on pid packets = filter_map section_in (assembled (packets_on pid packets))

abbrev pub value_of : {V : Type 0} → Result V TableFault → Option V
value_of (Ok v) = Some v
value_of (Err e) = None

-- what those say that are sections of the PAT, of a PMT, of the SDT
abbrev pub pat_section_of : List ℕ → Option (SectionValue PatValue)
pat_section_of b = option_map (λ (v : PatValue). record { header = v.header; table = v }) (value_of (pat_of b))

abbrev pub sdt_section_of : List ℕ → Option (SectionValue SdtValue)
sdt_section_of b = option_map (λ (v : SdtValue). record { header = v.header; table = v }) (value_of (sdt_of b))

abbrev pub pat_sections : List (List ℕ) → List (SectionValue PatValue)
pat_sections packets = filter_map pat_section_of (sections_on 0x0000 packets)

abbrev pub pmts_on : ℕ → List (List ℕ) → List PmtValue
pmts_on pid packets = filter_map (λ b. value_of (pmt_of b)) (sections_on pid packets)

abbrev pub sdt_sections : List (List ℕ) → List (SectionValue SdtValue)
sdt_sections packets = filter_map sdt_section_of (sections_on 0x0011 packets)
