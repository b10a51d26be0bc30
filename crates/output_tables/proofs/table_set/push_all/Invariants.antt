use Rattle.std.proofs.Common.{◌≡◌, ◌++◌, take}
use Rattle.std.specs.List.{All, flat_map}
use Rattle.tspkt.specs.Packet.{IsPacket}
use Rattle.output_tables.specs.OnPid.{packets_on_pid}
use Rattle.output_tables.proofs.table_set.push_all.Given as goal

abbrev pub invariant-loop-section : goal.invariant-loop-section
invariant-loop-section l = record {
  packets : l.packets.items ≡ l.initial.packets.items ++ flat_map packets_on_pid (take l.section-index l.sections);
  whole : All IsPacket (flat_map packets_on_pid (take l.section-index l.sections));
}
