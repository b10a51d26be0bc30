use Rattle.std.proofs.Common.{◌++◌}
use Rattle.outlet.proofs.KnownLaws.{sends_nothing}
use Rattle.outlet.proofs.SendingLaws.{on_err_always}
use Rattle.outlet.proofs.slot_writer.SlotWriter.put.Goals as goal

pub returns-in_err-analyse-clause-begun : goal.returns-in_err-analyse-clause-begun
returns-in_err-analyse-clause-begun g c =
    let given = c.args.self.now.writer ++ c.args.packet.now in
    on_err_always c.from_residual.result (given, sends_nothing (g.W.Sink.contents c.args.sink.now) given)
