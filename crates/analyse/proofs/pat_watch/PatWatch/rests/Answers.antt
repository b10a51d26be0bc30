use Rattle.std.proofs.Common.{sym, subst, ◌∙◌}
use Rattle.analyse.specs.PatWatching.{PatState}
use Rattle.analyse.specs.Quiet.{LeavesPat}
use Rattle.analyse.proofs.QuietLaws.{off_from_not, pat_rests}
use Rattle.analyse.proofs.pat_watch.PatWatch.rests.Goals as goal

pub returns : goal.returns
returns c t =
    let w : PatState = record { sections = c.self.inside.sections; gap = c.self.inside.gap; marked = c.self.inside.marked; programs = c.self.inside.programs } in
    subst (λ (v : PatState). LeavesPat v c.args.count c.args.packet.now) c.self.view_is
    (pat_rests w c.args.count c.args.packet.now (λ e. c.if-pid-eq0.false (c.pid.ensures.value ∙ e)) c.if-self.false (sym c.is_told.ensures ∙ off_from_not c.is_told.result t))
