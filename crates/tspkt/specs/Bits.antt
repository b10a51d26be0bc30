-- Bits of a list of bytes, counted from the high bit of the first byte, and the number in a run of them:
-- ISO/IEC 13818-1, 2.2.6 (uimsbf: unsigned integer, most significant bit first).
use Rattle.std.specs.Prelude.{ℕ, zero, suc, ◌+◌, ◌-◌, ◌*◌, ◌/◌, ◌%◌, ◌^◌, List, slice_index}

-- bit i, from the high bit of the first byte
abbrev pub bit : List ℕ → ℕ → ℕ
bit bytes i = slice_index bytes (i / 8) / 2 ^ (7 - i % 8) % 2

-- the number in the `width` bits from bit `first` on, the high bit first
unfoldable pub field : List ℕ → ℕ → ℕ → ℕ
field bytes first zero = 0
field bytes first (suc width) = 2 * field bytes first width + bit bytes (first + width)
