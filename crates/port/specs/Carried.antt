-- How a packet or the end mark lies in a ring (profile).
use Rattle.std.specs.Prelude.{◌≡◌, ℕ, ⊤, Bool, true, false, refl}
use Rattle.tspkt.specs.Packet.{null_packet}
use Rattle.tspkt.specs.declared.stamped.Stamped.{Stamped}
use Rattle.port.specs.Arrivals.{CarriedValue, Packet, End}

-- what lies beside an end mark
abbrev pub beside_mark : Stamped
beside_mark = record { packet = null_packet; stamp = 0 }

-- the packet and its place, or the end mark
abbrev pub carried_of : Stamped → ℕ → Bool → CarriedValue
carried_of item place false = Packet item place
carried_of item place true = End

-- nothing else lies beside an end mark
abbrev pub IsCarried : Stamped → ℕ → Bool → Type 0
IsCarried item place false = ⊤
IsCarried item place true = (beside_mark ≡ item) × (0 ≡ place)

-- what lies there
abbrev pub item_of : CarriedValue → Stamped
item_of (Packet item place) = item
item_of End = beside_mark

abbrev pub place_of : CarriedValue → ℕ
place_of (Packet item place) = place
place_of End = 0

abbrev pub is_mark : CarriedValue → Bool
is_mark (Packet item place) = false
is_mark End = true

-- and it tells how it lies there
pub same_item : (item : Stamped) (place : ℕ) (is_end : Bool) → IsCarried item place is_end → item_of (carried_of item place is_end) ≡ item
same_item item place false h = refl
same_item item place true h = h.0

pub same_place : (item : Stamped) (place : ℕ) (is_end : Bool) → IsCarried item place is_end → place_of (carried_of item place is_end) ≡ place
same_place item place false h = refl
same_place item place true h = h.1

pub same_mark : (item : Stamped) (place : ℕ) (is_end : Bool) → is_mark (carried_of item place is_end) ≡ is_end
same_mark item place false = refl
same_mark item place true = refl
