-- The rows of PMT, SDT and NIT: a head whose last 12 bits are a length, and as many bytes of whole descriptors.
-- ISO/IEC 13818-1, 2.4.4.8 (PMT); EN 300 468, 5.2.1 (NIT) and 5.2.3 (SDT).
use Rattle.std.specs.Prelude.{◌≡◌, ℕ, zero, suc, ◌+◌, ◌-◌, ◌*◌, nat_le, Bool, ◌&&◌, if◌then◌else◌, List, [], ◌∷◌, length, take, drop, Option, Some, None, option_map}
use Rattle.tspkt.specs.Bits.{field}
use Rattle.tables.specs.Descriptors.{are_whole}

-- the bytes of a row in two parts
pub record RowParts : Type 0 where
  pub head : List ℕ
  pub descriptors : List ℕ

-- the length that stands in the last 12 bits of a head of so many bytes
abbrev pub loop_length_of : ℕ → List ℕ → ℕ
loop_length_of head_length bytes = field bytes (8 * head_length - 12) 12

-- the head is there, and behind it as many bytes of whole descriptors as it says
unfoldable pub has_whole_loop : ℕ → List ℕ → Bool
has_whole_loop head_length bytes =
    nat_le (head_length + loop_length_of head_length bytes) (length bytes)
    && (nat_le head_length (length bytes) && are_whole 0 (take (loop_length_of head_length bytes) (drop head_length bytes)))

-- the row that these bytes begin with
abbrev pub first_row : ℕ → List ℕ → RowParts
first_row head_length bytes = record {
  head = take head_length bytes;
  descriptors = take (loop_length_of head_length bytes) (drop head_length bytes);
}

-- the rows that the bytes are, where `skip` bytes of one are still to pass; none where they are no whole rows
unfoldable pub rows_of : ℕ → ℕ → List ℕ → Option (List RowParts)
rows_of head_length zero [] = Some []
rows_of head_length (suc skip) [] = None
rows_of head_length (suc skip) (b ∷ bytes) = rows_of head_length skip bytes
rows_of head_length zero (b ∷ bytes) =
    if has_whole_loop head_length (b ∷ bytes)
    then option_map (λ rows. first_row head_length (b ∷ bytes) ∷ rows) (rows_of head_length (head_length - 1 + loop_length_of head_length (b ∷ bytes)) bytes)
    else None
