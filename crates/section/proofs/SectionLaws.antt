-- The length of a section whose first bytes are there.
use Rattle.std.proofs.Common.{◌≡◌, ℕ, ◌+◌, ◌*◌, ◌%◌, ◌≤◌, List, ◌++◌, length, get_or, refl, arith}
use Rattle.std.proofs.lemmas.List.{get_or_append_left}
use Rattle.tspkt.specs.Bits.{field}
use Rattle.tspkt.proofs.BitLaws.{field_in_byte, field_and_byte}
use Rattle.section.specs.Section.{section_length_of}

pub section_length_at : (b : List ℕ) → field b 12 12 ≡ get_or b 1 0 % 16 * 256 + get_or b 2 0 % 256
section_length_at b = let high = field_in_byte b 1 4 4 (omega arith) in let both = field_and_byte b 12 4 2 refl in omega (arith, high, both)

-- bytes behind the third don't change the length
pub section_length_of-append : (a b : List ℕ) → 3 ≤ length a → section_length_of (a ++ b) ≡ section_length_of a
section_length_of-append a b h =
    let one = get_or_append_left a b 0 1 (omega arith) in
    let two = get_or_append_left a b 0 2 (omega arith) in
    let new = section_length_at (a ++ b) in
    let old = section_length_at a in
    omega (arith, one, two, new, old)
