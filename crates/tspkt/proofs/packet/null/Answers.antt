use Rattle.std.proofs.Common.{refl}
use Rattle.tspkt.specs.Packet.{null_packet}
use Rattle.tspkt.proofs.RewrittenLaws.{is_packet-null_packet}
use Rattle.tspkt.proofs.packet.null.Goals as goal

pub invariant_of-result : goal.invariant_of-result
unfolding null_packet
invariant_of-result c = is_packet-null_packet

pub returns-clause-value : goal.returns-clause-value
unfolding null_packet
returns-clause-value c = refl
