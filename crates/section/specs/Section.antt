-- The length of a section (ISO/IEC 13818-1, 2.4.4): section_length stands in the low four bits of its second
-- byte and in its third byte, and counts the bytes behind that. A section of at most 1,024 bytes is read
-- (the bound of 2.4.4 for the tables of that standard, here for every section: profile).
use Rattle.std.specs.Prelude.{◌≡◌, ◌≢◌, ℕ, ◌+◌, nat_le, nat_lt, Bool, ◌&&◌, List, length, take, slice_index}
use Rattle.tspkt.specs.Bits.{field}
use Rattle.section.specs.Crc.{crc_of}

abbrev pub section_length_of : List ℕ → ℕ
section_length_of bytes = field bytes 12 12

-- section_length is there, and is above 1,021
abbrev pub is_too_long : List ℕ → Bool
is_too_long bytes = nat_le 3 (length bytes) && nat_lt 1021 (section_length_of bytes)

-- all bytes of the section that begins here are there
abbrev pub is_whole : List ℕ → Bool
is_whole bytes = nat_le 3 (length bytes) && nat_le (section_length_of bytes + 3) (length bytes)

-- the bytes of the section that begins here
abbrev pub first_section : List ℕ → List ℕ
first_section bytes = take (section_length_of bytes + 3) bytes

-- a section as it should be: its length is what it says, its CRC is right, and it isn't taken for stuffing
pub record IsGoodSection (section : List ℕ) : Type 0 where
  pub whole : length section ≡ section_length_of section + 3
  pub crc : crc_of section ≡ 0
  pub table : slice_index section 0 ≢ 255
