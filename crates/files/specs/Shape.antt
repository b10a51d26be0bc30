-- What the first bytes of a stream look like (profile).
use Rattle.std.specs.Prelude.{◌≡◌, ◌<◌, ◌==◌, ℕ, true, if◌then◌else◌, List, [], Option, Some, None, length, drop, Contains}
use Rattle.tspkt.specs.Framed.{acquires_sync}
use Rattle.tspkt.specs.declared.packet_size.PacketSize.{PacketSize}
use Rattle.tspkt.specs.declared.packet_size.PacketSize.TheVariants.{Ts188, Ts204}
use Rattle.files.specs.declared.stream_shape.StreamShape.{StreamShape}
use Rattle.files.specs.declared.stream_shape.StreamShape.TheVariants.{Empty, Packets, NoSync, OutOfStep}

-- the first byte of a packet (ISO/IEC 13818-1, 2.4.3.3)
abbrev pub sync_byte : ℕ
sync_byte = 0x47

-- there are five packets of so many bytes: five sync bytes stand as far apart somewhere
abbrev pub HasPackets : List ℕ → ℕ → Type 0
HasPackets bytes stride = (offset : ℕ) × (acquires_sync stride (drop offset bytes) ≡ true)

-- of no length below this there are five packets: of plain ones, of those with a time stamp before each, of those with 16 bytes
-- behind each, and of those with both
pub record HasNoneBelow (bytes : List ℕ) (below : ℕ) : Type 0 where
  pub plain : 188 < below → HasPackets bytes 188 → ⊥
  pub stamped : 192 < below → HasPackets bytes 192 → ⊥
  pub longer : 204 < below → HasPackets bytes 204 → ⊥
  pub longest : 208 < below → HasPackets bytes 208 → ⊥

-- what is said of the bytes is so; the shortest packets are named of which there are five
abbrev pub LooksLike : List ℕ → StreamShape → Type 0
LooksLike bytes Empty = bytes ≡ []
LooksLike bytes (Packets stride) = HasPackets bytes stride × HasNoneBelow bytes stride
LooksLike bytes NoSync = (0 < length bytes) × (Contains bytes sync_byte → ⊥)
LooksLike bytes OutOfStep = Contains bytes sync_byte × HasNoneBelow bytes 209

-- the size of packets that look so; none where they are of no size, or there are none
abbrev pub size_of : StreamShape → Option PacketSize
size_of (Packets length) = if length == 188 then Some Ts188 else if length == 204 then Some Ts204 else None
size_of Empty = None
size_of NoSync = None
size_of OutOfStep = None
