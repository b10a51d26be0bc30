-- What went through a ring: packets, and at most one end mark (profile).
use Rattle.std.specs.Prelude.{◌≡◌, ℕ, ◌+◌, List, [], ◌∷◌, ◌++◌, Bool, true, false}
use Rattle.tspkt.specs.declared.stamped.Stamped.{Stamped}

-- what goes through a ring: a packet, and the place of its stream, as the port was told; or the end mark
pub data CarriedValue : Type 0 where
  Packet : Stamped → ℕ → CarriedValue
  End : CarriedValue

-- the packets among them, in order
abbrev pub packets_of : List CarriedValue → List Stamped
packets_of [] = []
packets_of (Packet item place ∷ rest) = item ∷ packets_of rest
packets_of (End ∷ rest) = packets_of rest

-- how many end marks are among them
abbrev pub marks_of : List CarriedValue → ℕ
marks_of [] = 0
marks_of (Packet item place ∷ rest) = marks_of rest
marks_of (End ∷ rest) = 1 + marks_of rest

-- one mark or none
abbrev pub mark_count : Bool → ℕ
mark_count true = 1
mark_count false = 0

-- the end mark stands behind all packets; or there is none
abbrev pub EndsMarked : Bool → List CarriedValue → Type 0
EndsMarked true all = (before : List CarriedValue) × (all ≡ before ++ End ∷ []) × (marks_of before ≡ 0)
EndsMarked false all = marks_of all ≡ 0
