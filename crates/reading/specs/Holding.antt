-- An input, and the packet that it gives next, which lies among the items that were told (profile).
use Rattle.std.specs.Prelude.{◌≡◌, ℕ, List, [], ◌∷◌, drop, Option, Some, None, ⊤}
use Rattle.tspkt.specs.Packet.{fault_of}
use Rattle.tspkt.specs.declared.item.Item.{Item}
use Rattle.tspkt.specs.declared.item.Item.TheVariants.{Packet, Bad, SyncLoss, Lost}
use Rattle.tspkt.specs.declared.stamped.Stamped.{Stamped}
use Rattle.reading.specs.Takeable.{OriginValue}
use Rattle.reading.specs.declared.report.Report.{Report}
use Rattle.reading.specs.declared.stream_reader.StreamReader.{StreamReader}

-- an input: when its packets come, its stream behind what was looked at, the packet that it gives next, where it was found, and what was
-- found so far
pub record PacketReader (R : Type 0) : Type 0 where
  pub origin : OriginValue
  pub stream : StreamReader R
  pub held : Option Stamped
  pub report : Report

-- the first of these items, where it is a packet, with this time
abbrev pub first_packet : ℕ → List Item → Option Stamped
first_packet stamp [] = None
first_packet stamp (Packet position bytes ∷ rest) = Some (record { packet = bytes; stamp = stamp })
first_packet stamp (Bad position ∷ rest) = None
first_packet stamp (SyncLoss position ∷ rest) = None
first_packet stamp (Lost count ∷ rest) = None

-- the time of what was found, beside the place of its stream
abbrev pub time_of : Option (ℕ × ℕ) → Option ℕ
time_of None = None
time_of (Some found) = Some found.1

-- what is held: nothing, or the first of what was told, which comes at this time
abbrev pub held_of : Option ℕ → List Item → Option Stamped
held_of None told = None
held_of (Some stamp) told = first_packet stamp told

-- what lies behind it
abbrev pub behind : Option ℕ → List Item → List Item
behind None told = told
behind (Some stamp) told = drop 1 told

-- the stream behind it
abbrev pub stream_behind : {R : Type 0} → Option ℕ → StreamReader R → StreamReader R
stream_behind found stream = record stream { items = record stream.items { ahead = behind found stream.items.ahead } }

-- what is held is a packet
abbrev pub HoldsPacket : Option ℕ → List Item → Type 0
HoldsPacket None told = ⊤
HoldsPacket (Some stamp) told = (position : ℕ) × (bytes : List ℕ) × (rest : List Item) × (told ≡ Packet position bytes ∷ rest) × (fault_of bytes ≡ None)
