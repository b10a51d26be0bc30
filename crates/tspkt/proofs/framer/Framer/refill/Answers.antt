use Rattle.tspkt.proofs.DecidedLaws.{told_all_where_taken}
use Rattle.tspkt.proofs.framer.Framer.refill.Goals as goal

pub returns-else-is_err-clause-told_all : goal.returns-else-is_err-clause-told_all
returns-else-is_err-clause-told_all c = told_all_where_taken c.take_piece-taken.result c.take_piece-taken.new.self c.take_piece-taken.ensures.waits
