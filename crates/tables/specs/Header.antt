-- What the sections of the four tables share: eight bytes of header, a body, and CRC_32.
-- ISO/IEC 13818-1, 2.4.4.3 to 2.4.4.9 (PAT and PMT); EN 300 468, 5.2.1 and 5.2.3 (NIT and SDT).
use Rattle.std.specs.Prelude.{◌≡◌, ℕ, ◌+◌, ◌-◌, ◌*◌, ◌/◌, ◌%◌, ◌^◌, ◌<◌, ◌≤◌, ◌==◌, nat_lt, Bool, ◌&&◌, ◌||◌, not, if◌then◌else◌, List, ◌∷◌, ◌++◌, length, take, drop, Result, Ok, Err}
use Rattle.tspkt.specs.Bits.{field}
use Rattle.section.specs.Crc.{crc_of, crc_bytes}
use Rattle.section.specs.Section.{section_length_of}
use Rattle.tables.specs.declared.header.Header.{Header}
use Rattle.tables.specs.declared.table_fault.TableFault.{TableFault}
use Rattle.tables.specs.declared.table_fault.TableFault.TheVariants.{Short, WrongId, BadLength, BadCrc, BadHeader}

-- section_length isn't that of the bytes, or is below that of an empty body, or above 1,021
unfoldable pub has_bad_length : List ℕ → Bool
has_bad_length b =
    (not (section_length_of b + 3 == length b) || nat_lt (section_length_of b) 9) || nat_lt 1021 (section_length_of b)

-- section_syntax_indicator is 0, or section_number is above last_section_number; a table that is always of
-- one section has 0 in both
unfoldable pub has_bad_header : Bool → List ℕ → Bool
has_bad_header is_single_section b =
    (field b 8 1 == 0 || nat_lt (field b 56 8) (field b 48 8))
    || (is_single_section && not (field b 48 8 == 0 && field b 56 8 == 0))

-- the fields of the header
abbrev pub header_fields_of : List ℕ → Header
header_fields_of b = record {
  table_id_extension = field b 24 16;
  version_number = field b 42 5;
  current_next_indicator = field b 47 1 == 1;
  section_number = field b 48 8;
  last_section_number = field b 56 8;
}

-- the header of a section with this table_id, or the first fault
unfoldable pub header_of : ℕ → Bool → List ℕ → Result Header TableFault
header_of table_id is_single_section b =
    if nat_lt (length b) 3 then Err Short
    else if not (field b 0 8 == table_id) then Err WrongId
    else if has_bad_length b then Err BadLength
    else if not (crc_of b == 0) then Err BadCrc
    else if has_bad_header is_single_section b then Err BadHeader
    else Ok (header_fields_of b)

-- between the header and CRC_32
abbrev pub body_of : List ℕ → List ℕ
body_of b = take (length b - 12) (drop 8 b)

-- a header that a section can have
pub record IsHeader (h : Header) : Type 0 where
  pub table_id_extension : h.table_id_extension < 2 ^ 16
  pub version_number : h.version_number < 32
  pub section_number : h.section_number < 256
  pub last_section_number : h.last_section_number < 256
  pub order : h.section_number ≤ h.last_section_number

-- the header of a table that is always of one section
pub record IsSingleHeader (h : Header) : Type 0 where
  pub table_id_extension : h.table_id_extension < 2 ^ 16
  pub version_number : h.version_number < 32
  pub section_number : h.section_number ≡ 0
  pub last_section_number : h.last_section_number ≡ 0

-- all bits of a field are ones, as reserved ones are written
abbrev pub AreOnes : List ℕ → ℕ → ℕ → Type 0
AreOnes b first width = field b first width ≡ 2 ^ width - 1

-- the bit behind section_syntax_indicator is as this table has it ('0' in PAT and PMT, reserved_future_use in SDT
-- and NIT), and the reserved bits of the header are ones
pub record HasReservedHeaderBits (bit_behind_syntax_indicator : ℕ) (b : List ℕ) : Type 0 where
  pub behind_syntax_indicator : field b 9 1 ≡ bit_behind_syntax_indicator
  pub before_section_length : AreOnes b 10 2
  pub before_version_number : AreOnes b 40 2

-- ---- a section as it is written, byte by byte

-- the header and the body
abbrev pub header_and_body : ℕ → ℕ → Header → List ℕ → List ℕ
header_and_body table_id bit_behind_syntax_indicator h body =
    let current : ℕ = if h.current_next_indicator then 1 else 0 in
    table_id ∷ (0xB0 + bit_behind_syntax_indicator * 64 + (length body + 9) / 256) ∷ ((length body + 9) % 256)
    ∷ (h.table_id_extension / 256) ∷ (h.table_id_extension % 256)
    ∷ (0xC0 + h.version_number * 2 + current) ∷ h.section_number ∷ h.last_section_number ∷ body

-- and CRC_32 behind them
abbrev pub section_bytes : ℕ → ℕ → Header → List ℕ → List ℕ
section_bytes table_id bit_behind_syntax_indicator h body =
    let front = header_and_body table_id bit_behind_syntax_indicator h body in
    front ++ crc_bytes (crc_of front)
