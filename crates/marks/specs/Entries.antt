-- The entries of a feed's sequence (profile).
use Rattle.std.specs.Prelude.{◌≡◌, ℕ, List, [], ◌∷◌, Bool, true, false}
use Rattle.marks.specs.declared.entry.Entry.{Entry}
use Rattle.marks.specs.declared.entry.Entry.TheVariants.{Packet, Seal}

-- the packets among the entries, in order
abbrev pub packets_of : List Entry → List (List ℕ)
packets_of [] = []
packets_of (Packet p ∷ rest) = p ∷ packets_of rest
packets_of (Seal ∷ rest) = packets_of rest

-- whether the seal is among the entries
abbrev pub has_seal : List Entry → Bool
has_seal [] = false
has_seal (Packet p ∷ rest) = has_seal rest
has_seal (Seal ∷ rest) = true

-- nothing follows the seal
abbrev pub IsSealedLast : List Entry → Type 0
IsSealedLast [] = Unit {0}
IsSealedLast (Packet p ∷ rest) = IsSealedLast rest
IsSealedLast (Seal ∷ rest) = rest ≡ []
