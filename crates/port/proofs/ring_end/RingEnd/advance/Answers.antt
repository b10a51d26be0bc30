use Rattle.port.proofs.ShowingLaws.{advances}
use Rattle.port.proofs.ring_end.RingEnd.advance.Goals as goal

pub returns-clause-advanced : goal.returns-clause-advanced
returns-clause-advanced c =
    advances c.args.self.now c.release.new.self c.peek-kind.new.self c.release-2.new.self c.peek-kind.result c.release.ensures c.peek-kind.ensures.shows c.release-2.ensures
