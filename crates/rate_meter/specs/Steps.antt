-- How the packets of a stream are found by their sync bytes (ISO/IEC 13818-1, 2.4.3.2; ETSI TR 101 290, 5.2.1), a byte at a time, where
-- the first 12 bytes of each are all that is looked at (profile).
use Rattle.std.specs.Prelude.{ℕ, ◌+◌, ◌-◌, ◌≤◌, ◌==◌, nat_lt, nat_le, ◌&&◌, not, min, List, [], ◌∷◌, ◌++◌, length, Option, Some, None, is_none, if◌then◌else◌}
use Rattle.std.specs.List.{fold}
use Rattle.std.specs.Option.{option_to_list, option_map}
use Rattle.tspkt.specs.declared.packet_size.PacketSize.{PacketSize}
use Rattle.tspkt.specs.Packet.{pid_of, pcr_of, continuity_counter_of, discontinuity_indicator_of, has_payload_of, transport_scrambling_control_of, fault_of}
use Rattle.tspkt.specs.PacketSize.{stride_of}
use Rattle.rate_meter.specs.declared.seen.Seen.{Seen}

-- what is seen of a packet at a position by its first 12 bytes; none where these are no packet's
unfoldable pub seen_of : ℕ → List ℕ → Option Seen
seen_of position head =
    if is_none (fault_of head) then Some (record {
      pid = pid_of head;
      counter = continuity_counter_of head;
      has_payload = has_payload_of head;
      is_discontinuous = discontinuity_indicator_of head;
      is_scrambled = not (transport_scrambling_control_of head == 0);
      reading = option_map (λ pcr. record {
        position = position;
        pcr = pcr;
        is_discontinuous = discontinuity_indicator_of head;
      }) (pcr_of head);
    }) else None

-- Where a stream stands: how its packets follow one another; the position of the byte that comes next; how many bytes are passed over
-- before the next packet; the first bytes of a packet that has begun, fewer than 12; and how many packets in a row began with the sync
-- byte, up to 5.
pub record Step : Type 0 where
  pub size : PacketSize
  pub position : ℕ
  pub skip : ℕ
  pub head : List ℕ
  pub good : ℕ

-- at the first byte of a stream of this size
abbrev pub first_step : PacketSize → Step
first_step size = record { size = size; position = 0; skip = 0; head = []; good = 0 }

-- so many bytes were passed over
abbrev pub passed : ℕ → Step → Step
passed count s = record { size = s.size; position = s.position + count; skip = s.skip - count; head = s.head; good = s.good }

-- A bad sync byte. In sync the packet is passed over, and the next one has to be good; else a packet may begin at the next byte.
abbrev pub missed : Step → Step
missed s =
    if s.good == 5 then record { size = s.size; position = s.position + 1; skip = stride_of s.size - 1; head = []; good = 4 }
    else record { size = s.size; position = s.position + 1; skip = 0; head = []; good = 0 }

-- bytes of a packet that has begun, up to its eleventh
abbrev pub gathered : List ℕ → Step → Step
gathered bytes s = record { size = s.size; position = s.position + length bytes; skip = s.skip; head = s.head ++ bytes; good = s.good }

-- a byte of the first 12 of a packet
unfoldable pub pushed : ℕ → Step → Step
pushed b s =
    if length s.head == 0 && not (b == 0x47) then missed s
    else if length s.head == 11 then record { size = s.size; position = s.position + 1; skip = stride_of s.size - 12; head = []; good = min (s.good + 1) 5 }
    else record { size = s.size; position = s.position + 1; skip = 0; head = s.head ++ b ∷ []; good = s.good }

-- the packet whose twelfth byte it is, if that is the fifth in a row or a later one
unfoldable pub told : ℕ → Step → Option Seen
told b s = if length s.head == 11 && nat_le 4 s.good then seen_of (s.position - 11) (s.head ++ b ∷ []) else None

-- the first 12 bytes of a packet at once
abbrev pub headed : Step → Step
headed s = record { size = s.size; position = s.position + 12; skip = stride_of s.size - 12; head = []; good = min (s.good + 1) 5 }

-- and the packet, if it is in sync
abbrev pub told_at_once : List ℕ → Step → Option Seen
told_at_once head s = if nat_le 4 s.good then seen_of s.position head else None

-- where a stream stands, and what was seen of it, newest first
pub record Shown : Type 0 where
  pub step : Step
  pub seen : List Seen

-- one byte more
unfoldable pub stepped : Shown → ℕ → Shown
stepped s b =
    if nat_lt 0 s.step.skip then record { step = passed 1 s.step; seen = s.seen }
    else record { step = pushed b s.step; seen = option_to_list (told b s.step) ++ s.seen }

-- all bytes of a piece
abbrev pub shown : Shown → List ℕ → Shown
shown = fold stepped

-- what a step is at any time
pub record IsStep (skip head good : ℕ) : Type 0 where
  pub skip_within : skip ≤ 203
  pub head_within : head ≤ 11
  pub good_within : good ≤ 5
