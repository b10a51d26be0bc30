-- A packet that is sent again with another continuity counter: ISO/IEC 13818-1, 2.4.3.2 (the low four bits of byte 3).
use Rattle.std.specs.Prelude.{ℕ, ◌+◌, ◌*◌, ◌≤◌, List, slice_set}
use Rattle.tspkt.specs.Bits.{field}

-- the scrambling control and the adaptation field control stay
unfoldable pub with_counter : List ℕ → ℕ → List ℕ
with_counter p counter = slice_set p 3 (field p 24 4 * 16 + counter)

-- bit i is none of the counter's
abbrev pub IsOutsideCounter : ℕ → Type 0
IsOutsideCounter i = 28 ≤ i → 32 ≤ i
