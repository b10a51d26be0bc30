use Rattle.outlet.proofs.KnownLaws.{beginning_on}
use Rattle.outlet.proofs.packet_writer.PacketWriter.put.Goals as goal

pub returns-in-Err-clause-err : goal.returns-in-Err-clause-err
returns-in-Err-clause-err g c = beginning_on _ _ c.args.self.now c.args.packet.now c.in-Err.ensures.err
