use Rattle.std.proofs.Common.{◌≡◌, ◌*◌, map, take, length, vec_len, vec_capacity}
use Rattle.std.specs.List.{All, flat_map, range_with_len}
use Rattle.tspkt.specs.Packet.{payload_of, IsPacket}
use Rattle.output_tables.specs.Output.{table_packet}
use Rattle.output_tables.proofs.table_packets.table_packets.Given as goal

abbrev pub invariant-loop-packet : goal.invariant-loop-packet
invariant-loop-packet l = record {
  packets : l.packets.items ≡ map (table_packet l.pid l.section) (range_with_len 0 l.packet-index);
  payloads : length (flat_map payload_of (take l.packet-index l.packet-items)) ≡ 184 * l.packet-index;
  whole : All IsPacket l.packets.items;
  len : vec_len l.packets ≡ l.packet-index;
  room : vec_capacity l.packets ≡ length l.packet-items;
}
