-- The size of the packets of a stream: one every 188 bytes (ISO/IEC 13818-1, 2.4.3.2), or every 204, with sixteen bytes
-- of an outer code behind each (ETSI EN 300 421, 4.4.2). The limits are profile.
use Rattle.std.specs.Prelude.{ℕ, ◌*◌}
use Rattle.tspkt.specs.declared.packet_size.PacketSize.{PacketSize}
use Rattle.tspkt.specs.declared.packet_size.PacketSize.TheVariants.{Ts188, Ts204}

-- from the first byte of a packet to that of the next
abbrev pub stride_of : PacketSize → ℕ
stride_of Ts188 = 188
stride_of Ts204 = 204

-- the most bytes of a stream where no other limit is given: 16,777,216 packets
abbrev pub limit_of : PacketSize → ℕ
limit_of size = 16777216 * stride_of size
