use Rattle.tspkt.proofs.DecidedLaws.{fresh_told_all}
use Rattle.tspkt.proofs.framer.Framer.with_size.Goals as goal

pub returns-clause-told_all : goal.returns-clause-told_all
returns-clause-told_all c = fresh_told_all c.stride.result c.args.limit c.stride.ensures.long
