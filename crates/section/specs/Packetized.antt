-- A section in packets (ISO/IEC 13818-1, 2.4.4): the first packet has the payload_unit_start_indicator and the
-- pointer_field 0, and stuffing bytes 0xFF fill the last one. That the packets hold nothing else is profile.
use Rattle.std.specs.Prelude.{ℕ, ◌+◌, ◌-◌, ◌*◌, ◌/◌, ◌%◌, ◌==◌, if◌then◌else◌, List, [], ◌∷◌, ◌++◌, length, replicate}

-- packets of 184 payload bytes for the pointer_field and the section
abbrev pub packet_count_of : List ℕ → ℕ
packet_count_of section = (length section + 184) / 184

-- the pointer_field, the section and the stuffing bytes
abbrev pub stuffed : List ℕ → List ℕ
stuffed section = (0 ∷ section) ++ replicate (184 * packet_count_of section - (length section + 1)) 255

-- the four header bytes (2.4.3.2) of packet k: the sync byte; the payload_unit_start_indicator, for the first packet
-- alone, and the PID; the PID's low byte; not scrambled, payload only, and the continuity_counter
abbrev pub header_of : ℕ → ℕ → ℕ → List ℕ
header_of pid first k = 0x47 ∷ ((if k == 0 then 64 else 0) + pid / 256) ∷ pid % 256 ∷ (16 + (first + k) % 16) ∷ []
