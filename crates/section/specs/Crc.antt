-- CRC_32 (ISO/IEC 13818-1, Annex A): the polynomial is 0x04C11DB7, the register is all ones at the start,
-- each byte goes in high bit first, and nothing is inverted at the end.
use Rattle.std.specs.Prelude.{ℕ, ◌+◌, ◌*◌, ◌/◌, ◌%◌, ◌^◌, ◌-◌, ◌==◌, if◌then◌else◌, List, [], ◌∷◌, bit_xor}
use Rattle.std.specs.List.{flat_map}

-- one bit goes in: the register moves up, and where the bit that leaves it differs from the one that comes,
-- the polynomial is added
unfoldable pub crc_step : ℕ → ℕ → ℕ
crc_step register bit =
    if (register / 2 ^ 31 + bit) % 2 == 1 then bit_xor (register * 2 % 2 ^ 32) 0x04C11DB7
    else register * 2 % 2 ^ 32

-- the register after some bits, the first of them first
abbrev pub crc_bits : ℕ → List ℕ → ℕ
crc_bits register [] = register
crc_bits register (bit ∷ bits) = crc_bits (crc_step register bit) bits

-- the eight bits of a byte, the high bit first
abbrev pub byte_bits : ℕ → List ℕ
byte_bits b = b / 128 % 2 ∷ b / 64 % 2 ∷ b / 32 % 2 ∷ b / 16 % 2 ∷ b / 8 % 2 ∷ b / 4 % 2 ∷ b / 2 % 2 ∷ b % 2 ∷ []

abbrev pub bits_of : List ℕ → List ℕ
bits_of bytes = flat_map byte_bits bytes

-- the register over all bits of the bytes
unfoldable pub crc_of : List ℕ → ℕ
crc_of bytes = crc_bits (2 ^ 32 - 1) (bits_of bytes)

-- the four bytes of a register, the high byte first
abbrev pub crc_bytes : ℕ → List ℕ
crc_bytes register = (register / 2 ^ 24) ∷ (register / 2 ^ 16 % 256) ∷ (register / 2 ^ 8 % 256) ∷ (register % 256) ∷ []
