use Rattle.std.proofs.Common.{subst}
use Rattle.analyse.specs.PmtWatching.{PmtState}
use Rattle.analyse.specs.Quiet.{LeavesPmt}
use Rattle.analyse.proofs.QuietLaws.{pmt_rests}
use Rattle.analyse.proofs.pmt_watch.PmtWatch.rests.Goals as goal

pub returns : goal.returns
returns c t pid on =
    subst (λ (w : PmtState). LeavesPmt pid w c.args.packet.now) c.self.view_is
    (pmt_rests pid (record { assembly = c.self.inside.assembly; newest = c.self.inside.newest }) c.args.packet.now (c.rests.ensures t) on)
