-- What the packets of one PID tell of sections: the pointer_field and the stuffing bytes 0xFF are those of
-- ISO/IEC 13818-1, 2.4.4; a packet that is sent twice is that of 2.4.3.3. What is told of damage is profile.
use Rattle.std.specs.Prelude.{ℕ, ◌+◌, ◌%◌, ◌==◌, nat_lt, Bool, true, false, zero, suc, ◌&&◌, ◌||◌, not, if◌then◌else◌, List, [], ◌∷◌, ◌++◌, length, take, drop, slice_index, Option, Some, None}
use Rattle.tspkt.specs.Packet.{has_payload_of, payload_unit_start_indicator_of, payload_of, continuity_counter_of}
use Rattle.tspkt.specs.Counters.{is_copy}
use Rattle.section.specs.Crc.{crc_of}
use Rattle.section.specs.Section.{section_length_of, is_too_long, is_whole, first_section}
use Rattle.section.specs.declared.told.Told.{Told}
use Rattle.section.specs.declared.told.Told.TheVariants.{Section, BadCrc, TooLong, Cut}

-- what a payload tells, the section that it leaves begun, and whether one that is too long ended its reading
pub record Reading : Type 0 where
  pub begun : List ℕ
  pub told : List Told
  pub ended : Bool

abbrev pub nothing : Reading
nothing = record { begun = []; told = []; ended = false }

-- what is told of a whole section
abbrev pub told_of_whole : List ℕ → Told
told_of_whole section = if crc_of section == 0 then Section (record { items = section }) else BadCrc

-- the bytes of one section, and perhaps more, which are ignored
unfoldable pub collected : List ℕ → Reading
collected bytes =
    if is_too_long bytes then record { begun = []; told = TooLong ∷ []; ended = true }
    else if is_whole bytes then record { begun = []; told = told_of_whole (first_section bytes) ∷ []; ended = false }
    else record { begun = bytes; told = []; ended = false }

-- a section that was told, and what comes behind it
abbrev pub behind_told : Told → Reading → Reading
behind_told t later = record { begun = later.begun; told = t ∷ later.told; ended = later.ended }

-- sections, one behind the other up to a stuffing byte, where `skip` bytes of one that was told are still to pass
unfoldable pub sections_from : ℕ → List ℕ → Reading
sections_from skip [] = nothing
sections_from (suc skip) (b ∷ bytes) = sections_from skip bytes
sections_from zero (b ∷ bytes) =
    if b == 255 then nothing
    else if is_too_long (b ∷ bytes) || not (is_whole (b ∷ bytes)) then collected (b ∷ bytes)
    else behind_told (told_of_whole (first_section (b ∷ bytes))) (sections_from (section_length_of (b ∷ bytes) + 2) bytes)

-- bytes for a begun section; without one they are ignored
abbrev pub ending : List ℕ → List ℕ → Reading
ending begun bytes = if length begun == 0 then nothing else collected (begun ++ bytes)

-- a begun section is given up
abbrev pub cut : List ℕ → List Told
cut begun = if length begun == 0 then [] else Cut ∷ []

-- the end of a begun section, and then the sections behind the pointer
abbrev pub followed_by : Reading → Reading → Reading
followed_by first later =
    if first.ended then first
    else record { begun = later.begun; told = (first.told ++ cut first.begun) ++ later.told; ended = later.ended }

-- the pointer_field and the bytes that it spans are within the payload
abbrev pub has_pointer : List ℕ → Bool
has_pointer payload = nat_lt (slice_index payload 0) (length payload)

-- the bytes that the pointer_field spans, and those behind them
abbrev pub pointer_told : List ℕ → ℕ → List ℕ → Reading
pointer_told begun pointer payload =
    followed_by (ending begun (take pointer (drop 1 payload))) (sections_from 0 (drop (1 + pointer) payload))

-- one payload, with the section that was begun before it; a section begins in it only where the
-- payload_unit_start_indicator is set
unfoldable pub payload_told : List ℕ → Bool → List ℕ → Reading
payload_told begun start payload =
    if not start then ending begun payload
    else if not (has_pointer payload) then record { begun = []; told = cut begun; ended = false }
    else pointer_told begun (slice_index payload 0) payload

-- what is known behind some packets: a begun section or nothing, the last packet with a payload, and whether
-- that one was skipped as a copy
pub record AssemblerState : Type 0 where
  pub begun : List ℕ
  pub last : Option (List ℕ)
  pub skipped : Bool

abbrev pub fresh : AssemblerState
fresh = record { begun = []; last = None; skipped = false }

-- the packet is the last one sent again
abbrev pub is_repeat : Option (List ℕ) → List ℕ → Bool
is_repeat None packet = false
is_repeat (Some last) packet = is_copy last packet

-- the packet's counter isn't the one behind the last
abbrev pub is_discontinuous : Option (List ℕ) → List ℕ → Bool
is_discontinuous None packet = false
is_discontinuous (Some last) packet = not (continuity_counter_of packet == (continuity_counter_of last + 1) % 16)

-- what a packet tells, and what is known behind it
pub record Step : Type 0 where
  pub state : AssemblerState
  pub told : List Told

-- the packet is skipped: it is the last one sent again, and that one wasn't skipped itself
abbrev pub is_skipped : AssemblerState → List ℕ → Bool
is_skipped s packet = not s.skipped && is_repeat s.last packet

-- what a packet's payload tells
abbrev pub reading_of : List ℕ → List ℕ → Reading
reading_of begun packet = payload_told begun (payload_unit_start_indicator_of packet) (payload_of packet)

-- a packet without a payload
abbrev pub passed : AssemblerState → Step
passed s = record { state = s; told = [] }

-- a packet that is skipped
abbrev pub skipped_by : AssemblerState → List ℕ → Step
skipped_by s packet = record { state = record { begun = s.begun; last = Some packet; skipped = true }; told = [] }

-- a packet that is read, with what was told before its payload
abbrev pub read_with : List Told → List ℕ → Reading → Step
read_with before packet r =
    record { state = record { begun = r.begun; last = Some packet; skipped = false }; told = before ++ r.told }

-- one packet: without a payload it changes nothing; where its counter doesn't follow, a begun section is given up
-- before it is read
unfoldable pub packet_told : AssemblerState → List ℕ → Step
packet_told s packet =
    if not (has_payload_of packet) then passed s
    else if is_skipped s packet then skipped_by s packet
    else if is_discontinuous s.last packet then read_with (cut s.begun) packet (reading_of [] packet)
    else read_with [] packet (reading_of s.begun packet)

-- what is known behind some packets of one PID, from a state on
abbrev pub state_behind : AssemblerState → List (List ℕ) → AssemblerState
state_behind s [] = s
state_behind s (packet ∷ packets) = state_behind (packet_told s packet).state packets

-- what the packets of one PID tell, from a state on
abbrev pub assembled_from : AssemblerState → List (List ℕ) → List Told
assembled_from s [] = []
assembled_from s (packet ∷ packets) = (packet_told s packet).told ++ assembled_from (packet_told s packet).state packets

-- what the packets of one PID tell
abbrev pub assembled : List (List ℕ) → List Told
assembled packets = assembled_from fresh packets
