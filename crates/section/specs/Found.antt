-- What it means that a section was in the packets of a PID: its bytes are an unbroken run in the payloads of
-- consecutive packets.
use Rattle.std.specs.Prelude.{◌≡◌, ℕ, ◌+◌, ◌%◌, Bool, true, false, ◌&&◌, not, if◌then◌else◌, List, [], ◌∷◌, ◌++◌, length, drop, Option, Some, None, ⊤}
use Rattle.std.specs.List.{flat_map}
use Rattle.tspkt.specs.Packet.{has_payload_of, payload_unit_start_indicator_of, payload_of, continuity_counter_of}
use Rattle.section.specs.Crc.{crc_of}
use Rattle.section.specs.Section.{section_length_of}
use Rattle.section.specs.Assembled.{is_repeat}
use Rattle.section.specs.declared.told.Told.{Told}
use Rattle.section.specs.declared.told.Told.TheVariants.{Section, BadCrc, TooLong, Cut}

-- the packets without those that have no payload, and without those that are skipped: the last one sent again,
-- where that wasn't skipped itself
abbrev pub kept_behind : Option (List ℕ) → Bool → List (List ℕ) → List (List ℕ)
kept_behind last skipped [] = []
kept_behind last skipped (packet ∷ packets) =
    if not (has_payload_of packet) then kept_behind last skipped packets
    else if not skipped && is_repeat last packet then kept_behind (Some packet) true packets
    else packet ∷ kept_behind (Some packet) false packets

abbrev pub kept : List (List ℕ) → List (List ℕ)
kept packets = kept_behind None false packets

-- the payload without its pointer_field
abbrev pub body_of : List ℕ → List ℕ
body_of packet = if payload_unit_start_indicator_of packet then drop 1 (payload_of packet) else payload_of packet

-- the first packet's counter is one more than a packet's, modulo 16
abbrev pub Follows : List ℕ → List (List ℕ) → Type 0
Follows packet [] = ⊤
Follows packet (next ∷ rest) = continuity_counter_of next ≡ (continuity_counter_of packet + 1) % 16

-- each packet's counter is one more than that of the packet before it
abbrev pub AreConsecutive : List (List ℕ) → Type 0
AreConsecutive [] = ⊤
AreConsecutive (packet ∷ packets) = Follows packet packets × AreConsecutive packets

-- bytes stand, unbroken, in the payloads of some neighbours of the packets, whose counters follow each other
pub record IsRunIn (packets : List (List ℕ)) (bytes : List ℕ) : Type 0 where
  pub front : List (List ℕ)
  pub run : List (List ℕ)
  pub back : List (List ℕ)
  pub before : List ℕ
  pub behind : List ℕ
  pub neighbours : packets ≡ front ++ run ++ back
  pub consecutive : AreConsecutive run
  pub unbroken : flat_map body_of run ≡ before ++ bytes ++ behind

-- a section that was told: it was there, it has the length that it says, and its CRC is right
pub record IsFoundIn (packets : List (List ℕ)) (section : List ℕ) : Type 0 where
  pub found : IsRunIn (kept packets) section
  pub whole : length section ≡ section_length_of section + 3
  pub crc : crc_of section ≡ 0

abbrev pub IsFoundIfSection : List (List ℕ) → Told → Type 0
IsFoundIfSection packets (Section section) = IsFoundIn packets section.items
IsFoundIfSection packets BadCrc = ⊤
IsFoundIfSection packets TooLong = ⊤
IsFoundIfSection packets Cut = ⊤
