use Rattle.tspkt.specs.PacketSize.{stride_of}
use Rattle.tspkt.proofs.FramedLaws.{stride_long}
use Rattle.reading.proofs.StreamLaws.{fresh_passed}
use Rattle.reading.proofs.stream_reader.StreamReader.new.Goals as goal

pub returns-clause-passed : goal.returns-clause-passed
returns-clause-passed g c = fresh_passed (stride_of c.args.size) c.args.limit c.new.result _ (stride_long c.args.size) c.new.ensures
