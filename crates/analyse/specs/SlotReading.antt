-- What a slot is read as: its packet, or none where it is none.
use Rattle.std.specs.Prelude.{◌≡◌, ℕ, true, false, List, Option, Some, None}
use Rattle.analyse.specs.Slots.{is_packet}

abbrev pub IsReadAs : List ℕ → Option (List ℕ) → Type 0
IsReadAs slot None = is_packet slot ≡ false
IsReadAs slot (Some packet) = (packet ≡ slot) × (is_packet slot ≡ true)
