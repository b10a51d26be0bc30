-- For the code: what is known of one packet of a section. No public clause cites this.
use Rattle.std.specs.Prelude.{◌≡◌, ℕ, ◌+◌, ◌*◌, ◌%◌, ◌==◌, true, List, take, drop}
use Rattle.tspkt.specs.Packet.{has_payload_of, payload_unit_start_indicator_of, continuity_counter_of, payload_of}
use Rattle.section.specs.Packetized.{stuffed, header_of}

-- packet k: its header, the fields that an assembler reads, and its part of the payloads
pub record IsPart (section : List ℕ) (pid first k : ℕ) (packet : List ℕ) : Type 0 where
  pub header : take 4 packet ≡ header_of pid first k
  pub loaded : has_payload_of packet ≡ true
  pub start : payload_unit_start_indicator_of packet ≡ (k == 0)
  pub counter : continuity_counter_of packet ≡ (first + k) % 16
  pub payload : payload_of packet ≡ take 184 (drop (184 * k) (stuffed section))
