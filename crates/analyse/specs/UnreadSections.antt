-- A begun section that is no PMT: of its bytes only the number of those that it lacks is kept, where an assembler of all
-- sections keeps them.
use Rattle.std.specs.Prelude.{◌≡◌, ◌≢◌, ℕ, ◌+◌, ◌%◌, ◌<◌, ◌≤◌, ◌==◌, Bool, true, false, ◌&&◌, not, List, [], length, Option, Some, None}
use Rattle.tspkt.specs.Bits.{field}
use Rattle.tspkt.specs.Packet.{payload_unit_start_indicator_of, continuity_counter_of}
use Rattle.section.specs.Section.{section_length_of}
use Rattle.section.specs.Assembled.{AssemblerState, fresh, packet_told}
use Rattle.analyse.specs.ToldPmts.{pmts_in}

-- the section that begins with these bytes is no PMT, and lacks so many bytes
pub record Lacks (lacks : ℕ) (bytes : List ℕ) : Type 0 where
  pub header : 3 ≤ length bytes
  pub other : field bytes 0 8 ≢ 0x02
  pub fits : section_length_of bytes ≤ 1021
  pub sum : length bytes + lacks ≡ section_length_of bytes + 3
  pub some : 0 < lacks

pub record UnreadState : Type 0 where
  pub lacks : ℕ
  pub last : List ℕ
  pub skipped : Bool

-- it stands for this state of an assembler
pub record IsUnread (u : UnreadState) (s : AssemblerState) : Type 0 where
  pub begun : Lacks u.lacks s.begun
  pub last : s.last ≡ Some u.last
  pub skipped : s.skipped ≡ u.skipped

-- the packet is the next one, and no section begins in it
abbrev pub is_next : UnreadState → List ℕ → Bool
is_next u packet =
    not (payload_unit_start_indicator_of packet) && continuity_counter_of packet == (continuity_counter_of u.last + 1) % 16

abbrev pub has_start : Option (List ℕ) → Bool
has_start None = false
has_start (Some packet) = payload_unit_start_indicator_of packet

-- no section is begun, and none began in the last packet: nothing is told up to the next packet in which one can begin,
-- and that one is no copy of the last
pub record IsBetween (s : AssemblerState) : Type 0 where
  pub begun : s.begun ≡ []
  pub last : has_start s.last ≡ false

-- the packet tells the same PMTs as if it were the first one, and leaves the same behind it
pub record IsReadAsFirst (s : AssemblerState) (packet : List ℕ) : Type 0 where
  pub state : (packet_told s packet).state ≡ (packet_told fresh packet).state
  pub pmts : pmts_in (packet_told s packet).told ≡ pmts_in (packet_told fresh packet).told

-- the packet tells no PMT, and leaves no section begun
pub record IsPassed (s : AssemblerState) (packet : List ℕ) : Type 0 where
  pub state : IsBetween (packet_told s packet).state
  pub pmts : pmts_in (packet_told s packet).told ≡ []

-- the packet doesn't go on with what was begun
pub record IsReadAnew (s : AssemblerState) (packet : List ℕ) : Type 0 where
  pub first : payload_unit_start_indicator_of packet ≡ true → IsReadAsFirst s packet
  pub passed : payload_unit_start_indicator_of packet ≡ false → IsPassed s packet
